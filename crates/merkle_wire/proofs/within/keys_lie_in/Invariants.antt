use Rattle.std.proofs.Common.{take, drop}
use Rattle.merkle_search_tree.specs.Items.{bound_of}
use Rattle.merkle_wire.specs.Gaps.{owned_gap}
use Rattle.merkle_wire.proofs.Ascending.{GoOnFrom}
use Rattle.merkle_wire.proofs.Outside.{GoOnBehind}
use Rattle.merkle_wire.proofs.within.keys_lie_in.Given as goal

-- keys that ascend from the last one on go on with those so far, and where all ascend, those after do from there
abbrev pub invariant-keys : goal.invariant-keys
invariant-keys g l =
    GoOnFrom g.K.Ord.cmp (λ x. x.key) (owned_gap l.gap) (bound_of l.after) (take l.wanted-index l.keys)
    × GoOnBehind g.K.Ord.cmp (λ x. x.key) (owned_gap l.gap) (bound_of l.after) l.keys (drop l.wanted-index l.keys)
