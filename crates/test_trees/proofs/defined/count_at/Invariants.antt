use Rattle.std.proofs.Common.{◌≡◌, ◌==◌, ◌≤◌, take, count_by}
use Rattle.merkle_digest.specs.Level.{level_of}
use Rattle.test_trees.proofs.defined.count_at.Given as goal

-- the keys so far are counted
abbrev pub invariant-keys : goal.invariant-keys
invariant-keys g l =
    (l.count ≡ count_by (λ pair. level_of (g.H.Hasher.digest_of l.hasher pair.0) 16 == l.wanted) (take l.i l.pairs)) × (l.count ≤ l.i)
