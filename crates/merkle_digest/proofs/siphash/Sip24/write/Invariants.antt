use Rattle.std.proofs.Common.{List, ℕ, ◌++◌, ◌*◌, take}
use Rattle.merkle_digest.specs.Sip24.{Holds}
use Rattle.merkle_digest.proofs.siphash.Sip24.write.Given as goal

-- the words so far are written
abbrev pub invariant-words : goal.invariant-words
invariant-words l = (key written : List ℕ) → Holds l.fn.self key written → Holds l.self key (written ++ take (8 * l.i) l.bytes)
