-- The ranges of pages by their cached digests.
use Rattle.std.specs.Prelude.{ℕ, List, [], ◌∷◌, ◌++◌, Option, Some, None, if◌then◌else◌}
use Rattle.std.specs.declared.cmp.Ordering.{Ordering}
use Rattle.key_order.specs.Order.{upto}
use Rattle.key_order.specs.Map.{IsMap, last_key}
use Rattle.merkle_diff.specs.Entry.{Entry}
use Rattle.merkle_tree_theory.specs.Tree.{Tree, page, Row, high, node, Held, nothing, below}
use Rattle.merkle_tree_theory.specs.Page.{pairs, row_pairs}
use Rattle.std.specs.List.{flat_map}
use Rattle.merkle_tree_theory.specs.Canonical.{HasNode}
use Rattle.merkle_tree_theory.specs.Cache.{HasCache}

module _ {K D : Type 0} where
  -- the first key of a list of pairs
  abbrev pub first_key_of : List (K × D) → Option K
  first_key_of [] = None
  first_key_of (p ∷ ps) = Some p.0

  -- the last key of a list of pairs
  abbrev pub last_key_of : List (K × D) → Option K
  last_key_of [] = None
  last_key_of (p ∷ ps) = Some (last_key p.0 ps)

-- what there is, as a list
abbrev pub as_list : {X : Type 0} → Option X → List X
as_list None = []
as_list (Some x) = x ∷ []

module _ {K D : Type 0} (cmp : K → K → Ordering) where
  -- from the first to the last of the keys, with a digest; none where there is no key, or the first is above the last
  abbrev pub range_from : List (K × D) → List ℕ → Option (Entry K (List ℕ))
  range_from [] d = None
  range_from (p ∷ ps) d = if upto cmp p.0 (last_key p.0 ps) then Some (record { first = p.0; last = last_key p.0 ps; digest = d }) else None

  -- the range of a page: from the first to the last key of it and the pages below it, with its cached digest; none without a
  -- node, without a cached digest, or where that first key is above the last
  abbrev pub range_of : Tree K D → Option (Entry K (List ℕ))
  range_of (page l None r) = None
  range_of (page l (Some d) (high h)) = None
  range_of (page l (Some d) (node h k e r)) = range_from (row_pairs (node h k e r)) d

  abbrev mutual
    -- the range of each page that has one, before those of the pages below it
    pub cached_ranges : Tree K D → List (Entry K (List ℕ))
    cached_ranges (page l c r) = as_list (range_of (page l c r)) ++ row_cached r

    pub row_cached : Row K D → List (Entry K (List ℕ))
    row_cached (high h) = held_cached h
    row_cached (node h k d r) = held_cached h ++ row_cached r

    pub held_cached : Held K D → List (Entry K (List ℕ))
    held_cached nothing = []
    held_cached (below t) = cached_ranges t

module _ {K D : Type 0} (cmp : K → K → Ordering) where
  -- the page has a node and a cached digest, and its keys and those below it ascend
  abbrev pub HasRange : Tree K D → Type 0
  HasRange t = HasNode t × HasCache (below t) × IsMap cmp (pairs t)

  -- the ranges of the pages that have one
  abbrev pub ranges_to_come : List (Tree K D) → List (Entry K (List ℕ))
  ranges_to_come ts = flat_map (λ t. as_list (range_of cmp t)) ts
