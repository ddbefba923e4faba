use Rattle.std.proofs.Common.{◌≡◌, ◌++◌, drop}
use Rattle.merkle_diff.specs.Cut.{pieces_left}
use Rattle.merkle_diff.specs.DiffRange.{spans}
use Rattle.merkle_diff.proofs.reduce.all_left.Given as goal

abbrev pub invariant-bad : goal.invariant-bad
invariant-bad g l = spans l.pieces.items ++ pieces_left g.K.Ord.cmp (spans (drop l.i l.bad)) (spans (drop l.next l.good)) ≡ pieces_left g.K.Ord.cmp (spans l.bad) (spans l.good)
