use Rattle.std.proofs.Common.{◌≡◌, ℕ, List, [], ◌++◌, ◌≤◌, drop}
use Rattle.merkle_digest.specs.Level.{level_of}
use Rattle.merkle_digest.specs.Sip24.{Holds}
use Rattle.merkle_digest.specs.SipHash.{zero_key}
use Rattle.merkle_tree_theory.specs.Stream.{head_bytes}
use Rattle.test_trees.proofs.Scan.{part, left}
use Rattle.test_trees.proofs.defined.+defined_digest.Given as goal

abbrev pub decreases-defined_digest : goal.decreases-defined_digest
decreases-defined_digest g l = l.bound

abbrev pub invariant-pairs : goal.invariant-pairs
invariant-pairs g l =
    let lev : g.row.K.Denot → ℕ = λ key. level_of (g.H.Hasher.digest_of l.hasher key) 16 in
    (l.start ≤ l.i) × ((before : List ℕ) × Holds l.sip zero_key before
    × (before ++ left l.format g.K.KeyBytes.bytes_of lev l.page_level (part l.pairs l.start l.i)
    (drop l.i l.pairs) ≡ head_bytes l.format l.page_level l.count ++ left l.format g.K.KeyBytes.bytes_of lev l.page_level [] l.pairs))
