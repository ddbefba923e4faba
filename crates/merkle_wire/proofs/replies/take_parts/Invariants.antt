use Rattle.std.specs.Prelude.{flat_map}
use Rattle.std.proofs.Common.{◌≡◌, ◌++◌, List, length, map}
use Rattle.std.specs.Vec.Iter.{into_iter_items, into_iter_len}
use Rattle.merkle_wire.specs.Coming.{AscendIn}
use Rattle.merkle_wire.specs.Gaps.{owned_gap}
use Rattle.merkle_wire.specs.ItsRows.{ForRowsOf}
use Rattle.merkle_wire.specs.Replies.{Part, part_in_bytes}
use Rattle.merkle_wire.specs.Taking.{AddsRows, AreBehind}
use Rattle.merkle_wire.specs.declared.gaps.OwnedGap.{OwnedGap}
use Rattle.merkle_wire.specs.declared.message.Kind.TheVariants.{RowsIn as rows_in_kind}
use Rattle.merkle_wire.proofs.Reading.{AreRead}
use Rattle.merkle_wire.proofs.replies.take_parts.Given as goal

-- the rows in the first gaps are read and taken, and what is left is the gaps after them, and the other gaps once no byte is left
abbrev pub invariant-gaps : goal.invariant-gaps
invariant-gaps g l = record {
  left : l.yielded ++ into_iter_items l.gap-iterator ≡ l.fn.gaps.items;
  count : into_iter_len l.gap-iterator ≡ length (into_iter_items l.gap-iterator);
  told : List (OwnedGap g.row.K.Denot × Part g.row.K.Denot g.row.V.Denot);
  behind : List (OwnedGap g.row.K.Denot);
  others : List (OwnedGap g.row.K.Denot);
  of : l.left.items ≡ behind ++ others;
  are : AreBehind g.K.Ord.cmp told behind;
  read : AreRead rows_in_kind (part_in_bytes g.K.Encode.encoding g.V.Encode.encoding) (λ gap part. AscendIn g.K.Ord.cmp (owned_gap gap) (map (λ r. r.0) part.rows)) l.fn.reply
      l.yielded others l.reader.left.now told;
  steady : g.T.KeptTree.is_sound l.tree → g.T.KeptTree.is_sound l.fn.tree;
  kept : g.T.KeptTree.is_sound l.tree → g.T.KeptTree.kept l.tree ≡ g.T.KeptTree.kept l.fn.tree;
  taken : g.T.KeptTree.is_sound l.tree → ForRowsOf g.H.RowHasher.laws (g.T.KeptTree.kept l.fn.tree).digests
      (λ local. AddsRows g.H.RowHasher.laws local (flat_map (λ t. t.1.rows) told) l.fn.work l.work);
}
