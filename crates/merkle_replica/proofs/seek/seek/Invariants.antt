use Rattle.std.proofs.Common.{◌≡◌, ◌≤◌, drop, length}
use Rattle.merkle_replica.specs.Answers.{spans_of}
use Rattle.merkle_replica.specs.Seek.{ranges_from}
use Rattle.merkle_replica.proofs.seek.seek.Given as goal

-- the ranges passed so far end below the key
abbrev pub invariant-seeking : goal.invariant-seeking
invariant-seeking g l = record {
  inside : l.at ≤ length l.ranges;
  passed : ranges_from g.K.Ord.cmp l.key (drop l.from (spans_of l.ranges)) ≡ ranges_from g.K.Ord.cmp l.key (drop l.at (spans_of l.ranges));
}
