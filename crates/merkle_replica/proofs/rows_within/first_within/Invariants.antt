use Rattle.std.proofs.Common.{◌≤◌, [], drop, length}
use Rattle.merkle_replica.specs.Answers.{spans_of}
use Rattle.merkle_replica.proofs.RowsInRanges.{Left}
use Rattle.merkle_replica.proofs.rows_within.first_within.Given as goal

-- no row so far is in a range, and what is left of the ranges holds those that are still to be found
abbrev pub invariant-finding : goal.invariant-finding
invariant-finding g l = record {
  inside : l.at ≤ length l.ranges;
  left : Left g.K.Ord.cmp g.met.K.Ord.total (spans_of l.ranges) l.rows [] (drop l.at (spans_of l.ranges)) l.i;
}
