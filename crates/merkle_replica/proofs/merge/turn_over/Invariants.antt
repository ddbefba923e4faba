use Rattle.std.proofs.Common.{◌≡◌, ◌+◌, ◌≤◌, ◌++◌, reverse, vec_len}
use Rattle.std.specs.Vec.{vec_capacity}
use Rattle.merkle_replica.proofs.merge.turn_over.Given as goal

abbrev pub invariant-turning : goal.invariant-turning
invariant-turning g l =
    (l.into.items ++ reverse l.from.items ≡ l.initial.into.items ++ reverse l.initial.from.items)
    × (vec_len l.from + vec_len l.into ≤ vec_capacity l.into)
    × (vec_capacity l.from ≡ vec_capacity l.initial.from)

abbrev pub decreases-turning : goal.decreases-turning
decreases-turning g l = vec_len l.from
