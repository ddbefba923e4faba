use Rattle.std.proofs.Common.{◌≡◌, ◌++◌, List, length}
use Rattle.std.specs.Vec.Iter.{into_iter_items, into_iter_len}
use Rattle.merkle_wire.specs.Coming.{LiesIn}
use Rattle.merkle_wire.specs.Gaps.{owned_gap}
use Rattle.merkle_wire.specs.ItsRows.{ForRowsOf}
use Rattle.merkle_wire.specs.Outlines.{Outline}
use Rattle.merkle_wire.specs.Replies.{outline_over_bytes}
use Rattle.merkle_wire.specs.Taking.{AreTaken}
use Rattle.merkle_wire.specs.declared.gaps.OwnedGap.{OwnedGap}
use Rattle.merkle_wire.proofs.Reading.{AreRead}
use Rattle.merkle_wire.proofs.replies.take_outlines.Given as goal

-- what came of the pages over the first gaps is read and taken, and the other gaps are left once no byte is
abbrev pub invariant-gaps : goal.invariant-gaps
invariant-gaps g l = record {
  left : l.yielded ++ into_iter_items l.gap-iterator ≡ l.fn.gaps.items;
  count : into_iter_len l.gap-iterator ≡ length (into_iter_items l.gap-iterator);
  told : List (OwnedGap g.row.K.Denot × Outline g.row.K.Denot g.row.V.Denot);
  read : AreRead l.fn.kind (outline_over_bytes g.K.Encode.encoding g.V.Encode.encoding) (λ gap one. LiesIn g.K.Ord.cmp g.row.N (owned_gap gap) one) l.fn.reply
      l.yielded l.left.items l.reader.left.now told;
  steady : g.T.KeptTree.is_sound l.tree → g.T.KeptTree.is_sound l.fn.tree;
  kept : g.T.KeptTree.is_sound l.tree → g.T.KeptTree.kept l.tree ≡ g.T.KeptTree.kept l.fn.tree;
  taken : g.T.KeptTree.is_sound l.tree → ForRowsOf g.H.RowHasher.laws (g.T.KeptTree.kept l.fn.tree).digests (λ local. AreTaken g.H.RowHasher.laws local told l.fn.work l.work);
}
