-- What the plain program that makes the defined tree answers.
use Rattle.std.specs.Prelude.{ℕ, List, ◌++◌, Option, Some, None}
use Rattle.merkle_digest.specs.Level.{level_of}
use Rattle.merkle_digest.specs.Sip24.{Holds}
use Rattle.merkle_digest.specs.declared.siphash.Sip24.{Sip24}
use Rattle.merkle_tree_theory.specs.Tree.{Held, nothing, below}
use Rattle.merkle_tree_theory.specs.Stream.{page_digest, none_bytes, below_bytes}
use Rattle.merkle_tree_theory.specs.declared.page_format.PageFormat.{PageFormat}

-- the digest in the format of the page that stands in a gap, where there is one
abbrev pub gap_digest : {K : Type 0} → PageFormat → (K → List ℕ) → Held K (List ℕ) → Option (List ℕ)
gap_digest format bytes_of nothing = None
gap_digest format bytes_of (below t) = Some (page_digest format bytes_of t)

-- what stands for the page of a gap in the format, by its digest where there is one
abbrev pub written_gap : PageFormat → Option (List ℕ) → List ℕ
written_gap format None = none_bytes format
written_gap format (Some digest) = below_bytes format digest

-- the level of a key in base 16, by its digest
abbrev pub level_by : {K : Type 0} → (K → List ℕ) → K → ℕ
level_by digest_of = λ key. level_of (digest_of key) 16

-- these bytes are written to a hasher, after those that it holds
abbrev pub WritesTo : Sip24 → List ℕ → Sip24 → Type 0
WritesTo old bytes new = (key before : List ℕ) → Holds old key before → Holds new key (before ++ bytes)
