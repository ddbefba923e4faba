-- What is written to the hasher of a page.
use Rattle.std.specs.Prelude.{ℕ, List, ◌++◌}
use Rattle.merkle_digest.specs.Sip24.{Holds}
use Rattle.merkle_digest.specs.declared.siphash.Sip24.{Sip24}

-- the hasher holds these bytes after those that it held
abbrev pub HoldsMore : Sip24 → List ℕ → Sip24 → Type 0
HoldsMore old bytes new = (key written : List ℕ) → Holds old key written → Holds new key (written ++ bytes)
