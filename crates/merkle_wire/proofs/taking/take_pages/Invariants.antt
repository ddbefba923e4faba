use Rattle.std.proofs.Common.{◌≡◌, take}
use Rattle.merkle_search_tree.specs.Items.{bound_of}
use Rattle.merkle_wire.specs.Gaps.{owned_gap}
use Rattle.merkle_wire.specs.ItsRows.{ForRowsOf}
use Rattle.merkle_wire.proofs.NewGaps.{AreGapsSoFar}
use Rattle.merkle_wire.proofs.taking.take_pages.Given as goal

-- the pages before the first nodes are taken
abbrev pub invariant-nodes : goal.invariant-nodes
invariant-nodes g l = record {
  steady : g.T.KeptTree.is_sound l.tree → g.T.KeptTree.is_sound l.fn.tree;
  kept : g.T.KeptTree.is_sound l.tree → g.T.KeptTree.kept l.tree ≡ g.T.KeptTree.kept l.fn.tree;
  so : g.T.KeptTree.is_sound l.tree → ForRowsOf g.H.RowHasher.laws (g.T.KeptTree.kept l.fn.tree).digests (λ local.
      AreGapsSoFar g.H.RowHasher.laws local (owned_gap l.gap) (bound_of l.after) (take l.node-index l.below) l.fn.work l.work);
}
