use Rattle.std.proofs.Common.{◌≡◌, ◌+◌, ◌-◌, ◌≤◌, ◌++◌, reverse, vec_len}
use Rattle.std.specs.Vec.{vec_capacity}
use Rattle.merkle_search_tree.proofs.spare.move_tail.Given as goal

abbrev pub invariant-tail : goal.invariant-tail
invariant-tail g l =
    (l.from.items ++ reverse l.into.items ≡ l.initial.from.items)
    × (l.at ≤ vec_len l.from)
    × (vec_len l.from ≤ l.at + (vec_capacity l.into - vec_len l.into))
    × (vec_len l.into ≤ vec_capacity l.into)

abbrev pub decreases-tail : goal.decreases-tail
decreases-tail g l = vec_len l.from
