use Rattle.std.proofs.Common.{◌≤◌, drop, length}
use Rattle.merkle_replica.specs.Answers.{spans_of}
use Rattle.merkle_replica.proofs.RowsInRanges.{Counts}
use Rattle.merkle_replica.proofs.seek.count_within.Given as goal

-- the rows found so far are counted, and what is left of the ranges holds those that are still to be found
abbrev pub invariant-counting : goal.invariant-counting
invariant-counting g l = record {
  inside : l.at ≤ length l.ranges;
  counts : Counts g.K.Ord.cmp g.met.K.Ord.total (spans_of l.ranges) l.rows (drop l.at (spans_of l.ranges)) l.row-index l.count;
  few : l.count ≤ l.row-index;
}
