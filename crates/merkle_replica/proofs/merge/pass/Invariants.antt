use Rattle.std.proofs.Common.{◌≡◌, ◌+◌, ◌≤◌, vec_len}
use Rattle.std.specs.Vec.{vec_capacity}
use Rattle.std.specs.List.{AllByRecursion}
use Rattle.key_order.specs.Order.{Below}
use Rattle.merkle_replica.specs.Parted.{whole}
use Rattle.merkle_replica.proofs.merge.pass.Given as goal

abbrev pub invariant-passing : goal.invariant-passing
invariant-passing g l = record {
  same : whole l.front.items l.back.items ≡ whole l.initial.front.items l.initial.back.items;
  low : AllByRecursion (λ s. Below g.K.Ord.cmp s.0 l.key) l.front.items;
  len : vec_len l.front + vec_len l.back ≡ vec_len l.initial.front + vec_len l.initial.back;
  room : vec_capacity l.initial.front ≤ vec_capacity l.front;
  back : vec_len l.back ≤ vec_capacity l.back;
}

abbrev pub decreases-passing : goal.decreases-passing
decreases-passing g l = vec_len l.back
