use Rattle.std.proofs.Common.{◌≡◌, ◌+◌, drop}
use Rattle.merkle_bytes.specs.Keys.{shared}
use Rattle.merkle_bytes.proofs.fronts.shared_len.Given as goal

-- as many bytes as were looked at are shared, and as many more as of the rests
abbrev pub invariant-sharing : goal.invariant-sharing
invariant-sharing l = shared l.first l.second ≡ l.i + shared (drop l.i l.first) (drop l.i l.second)
