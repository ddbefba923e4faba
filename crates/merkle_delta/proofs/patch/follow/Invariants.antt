use Rattle.std.proofs.Common.{◌≤◌, length, drop}
use Rattle.merkle_delta.proofs.Following.{AreTaken}
use Rattle.merkle_delta.proofs.patch.follow.Given as goal

-- the first steps are taken
abbrev pub invariant-steps : goal.invariant-steps
invariant-steps l = record {
  inside : l.at ≤ length l.own;
  taken : AreTaken l.own l.fn.reader.left.now (drop l.at l.own) l.reader.left.now l.bytes.items;
}

abbrev pub decreases-steps : goal.decreases-steps
decreases-steps l = length l.reader.left.now
