use Rattle.std.specs.Prelude.{⊤, flat_map}
use Rattle.std.proofs.Common.{◌≡◌, ◌++◌, List, Option, length}
use Rattle.std.specs.Vec.Iter.{into_iter_items, into_iter_len}
use Rattle.merkle_wire.specs.ItsRows.{ForRowsOf}
use Rattle.merkle_wire.specs.Replies.{value_at_bytes}
use Rattle.merkle_wire.specs.Taking.{AddsRows, value_row}
use Rattle.merkle_wire.specs.declared.message.Kind.TheVariants.{RowsAt as rows_at_kind}
use Rattle.merkle_wire.specs.declared.wanted.Wanted.{Wanted}
use Rattle.merkle_wire.proofs.Reading.{AreRead}
use Rattle.merkle_wire.proofs.replies.take_values.Given as goal

-- the values at the first keys are read and their rows are taken, and the other keys are left once no byte is
abbrev pub invariant-keys : goal.invariant-keys
invariant-keys g l = record {
  left : l.yielded ++ into_iter_items l.wanted-iterator ≡ l.fn.keys.items;
  count : into_iter_len l.wanted-iterator ≡ length (into_iter_items l.wanted-iterator);
  told : List (Wanted g.row.K.Denot × Option g.row.V.Denot);
  read : AreRead rows_at_kind (value_at_bytes g.V.Encode.encoding) (λ wanted value. ⊤) l.fn.reply l.yielded l.left.items l.reader.left.now told;
  steady : g.T.KeptTree.is_sound l.tree → g.T.KeptTree.is_sound l.fn.tree;
  kept : g.T.KeptTree.is_sound l.tree → g.T.KeptTree.kept l.tree ≡ g.T.KeptTree.kept l.fn.tree;
  taken : g.T.KeptTree.is_sound l.tree → ForRowsOf g.H.RowHasher.laws (g.T.KeptTree.kept l.fn.tree).digests
      (λ local. AddsRows g.H.RowHasher.laws local (flat_map value_row told) l.fn.work l.work);
}
