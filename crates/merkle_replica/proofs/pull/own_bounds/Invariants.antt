use Rattle.std.proofs.Common.{take}
use Rattle.merkle_diff.specs.DiffRange.{spans}
use Rattle.merkle_diff.specs.Merge.{SameSpans}
use Rattle.merkle_replica.specs.Answers.{spans_of}
use Rattle.merkle_replica.proofs.pull.own_bounds.Given as goal

-- the ranges so far have equal bounds
abbrev pub invariant-owning : goal.invariant-owning
invariant-owning g l = SameSpans g.K.Ord.cmp (spans (take l.range-index l.found)) (spans_of l.ranges.items)
