use Rattle.std.proofs.Common.{ℕ, ◌<◌, get_or}
use Rattle.merkle_audit.specs.Values.{HasOneDigest}
use Rattle.merkle_audit.proofs.values.have_one_digest.Given as goal

-- the rows so far
abbrev pub invariant-rows : goal.invariant-rows
invariant-rows g l = (k : ℕ) (d : g.row.K.Denot × g.row.V.Denot) → k < l.row-index → HasOneDigest g.H.Hasher-2.digest_of l.a l.b (get_or l.rows k d)
