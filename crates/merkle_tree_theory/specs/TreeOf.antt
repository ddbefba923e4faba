-- The tree of a map, as a function of the map and the levels of its keys.
use Rattle.std.specs.Prelude.{ℕ, zero, suc, Bool, false, ◌||◌, ◌==◌, List, [], ◌∷◌, ◌++◌, None, if◌then◌else◌}
use Rattle.merkle_digest.specs.Level.{level_of}
use Rattle.merkle_tree_theory.specs.Tree.{Tree, page, Row, high, node, Held, nothing, below}

module _ {K D : Type 0} where
  -- the root page of what a whole map stands in: where that is nothing, the page of level 0 without nodes
  abbrev pub root_of : Held K D → Tree K D
  root_of nothing = page 0 None (high nothing)
  root_of (below t) = t

module _ {K D : Type 0} (lev : K → ℕ) where
  -- whether a key of the list is on level n
  abbrev pub any_at : ℕ → List (K × D) → Bool
  any_at n [] = false
  any_at n (p ∷ ps) = lev p.0 == n || any_at n ps

  -- the row whose nodes are the pairs of level n, where each run of other pairs between them stands in a gap
  abbrev pub row_of : (List (K × D) → Held K D) → ℕ → List (K × D) → List (K × D) → Row K D
  row_of gap n run [] = high (gap run)
  row_of gap n run (p ∷ ps) = if (lev p.0 == n) then (node (gap run) p.0 p.1 (row_of gap n [] ps)) else (row_of gap n (run ++ p ∷ []) ps)

  -- the page of a list of pairs whose levels are below n: its level is the greatest of the list, and an empty list has no page
  abbrev pub gap_of : ℕ → List (K × D) → Held K D
  gap_of zero ps = nothing
  gap_of (suc n) ps = if (any_at n ps) then (below (page n None (row_of (gap_of n) n [] ps))) else (gap_of n ps)

  -- the root page of a map, whose levels are at most 255
  unfoldable pub tree_of : List (K × D) → Tree K D
  tree_of ps = root_of (gap_of 256 ps)

-- the tree that a map defines under a level base, where digest_of gives the digests of its keys
abbrev pub defined_tree : {K D : Type 0} → (K → List ℕ) → ℕ → List (K × D) → Tree K D
defined_tree digest_of base m = tree_of (λ k. level_of (digest_of k) base) m
