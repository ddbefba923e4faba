use Rattle.std.proofs.Common.{ℕ, suc, ◌<◌, get_or}
use Rattle.key_order.specs.Order.{Upto, Below}
use Rattle.merkle_replica.proofs.rows_within.are_ranges.Given as goal

-- the ranges so far have their bounds in order, and each ends below the next
abbrev pub invariant-testing : goal.invariant-testing
invariant-testing g l = record {
  in_order : (j : ℕ) (d : g.row.K.Denot × g.row.K.Denot) → j < l.i → Upto g.K.Ord.cmp (get_or l.ranges j d).0 (get_or l.ranges j d).1;
  apart : (j : ℕ) (d : g.row.K.Denot × g.row.K.Denot) → suc j < l.i → Below g.K.Ord.cmp (get_or l.ranges j d).1 (get_or l.ranges (suc j) d).0;
}
