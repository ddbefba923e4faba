use Rattle.std.proofs.Common.{take, drop}
use Rattle.merkle_search_tree.specs.Items.{bound_of}
use Rattle.merkle_wire.specs.Gaps.{owned_gap}
use Rattle.merkle_wire.proofs.Ascending.{GoOnFrom}
use Rattle.merkle_wire.proofs.Outside.{GoOnBehind}
use Rattle.merkle_wire.proofs.within.rows_lie_in.Given as goal

-- keys that ascend from the last one on go on with those so far, and where all ascend, those after do from there
abbrev pub invariant-rows : goal.invariant-rows
invariant-rows g l =
    GoOnFrom g.K.Ord.cmp (λ x. x.0) (owned_gap l.gap) (bound_of l.after) (take l.row-index l.rows)
    × GoOnBehind g.K.Ord.cmp (λ x. x.0) (owned_gap l.gap) (bound_of l.after) l.rows (drop l.row-index l.rows)
