use Rattle.std.proofs.Common.{◌≡◌, ◌<◌, take, drop, ◌++◌}
use Rattle.merkle_diff.specs.DiffRange.{span, spans}
use Rattle.merkle_diff.specs.Sweep.{sweep_of, sweep}
use Rattle.merkle_diff.proofs.merge.merge_to_front.Given as goal

abbrev pub invariant-sweep : goal.invariant-sweep
invariant-sweep g l = record {
  behind : l.kept < l.i;
  is : spans (take l.kept l.ranges) ++ sweep g.K.Ord.cmp (span l.last) (spans (drop l.i l.ranges)) ≡ sweep_of g.K.Ord.cmp (spans l.fn.ranges);
}
