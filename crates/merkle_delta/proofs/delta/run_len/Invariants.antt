use Rattle.std.proofs.Common.{◌+◌, ◌-◌, length}
use Rattle.merkle_delta.specs.Deltas.{HaveChecksums}
use Rattle.merkle_delta.proofs.delta.run_len.Given as goal

-- this many are the same
abbrev pub invariant-same : goal.invariant-same
invariant-same l = HaveChecksums l.checksums l.chunks l.from l.done l.len

abbrev pub decreases-same : goal.decreases-same
decreases-same l = length l.checksums - (l.from + l.len)
