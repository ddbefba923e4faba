-- The page ranges of a tree, and which lists of them belong to a map.
use Rattle.std.specs.Prelude.{◌≡◌, ℕ, List, [], ◌∷◌, ◌++◌, ◌⊎◌}
use Rattle.std.specs.declared.cmp.Ordering.{Ordering}
use Rattle.key_order.specs.Map.{IsMap, SameMap, last_key}
use Rattle.key_order.specs.Interval.{Span}
use Rattle.merkle_diff.specs.Difference.{IsDifference, SparesAgreed}
use Rattle.merkle_diff.specs.Entry.{Entry}
use Rattle.merkle_diff.specs.SameEntries.{SameEntries}
use Rattle.merkle_tree_theory.specs.Tree.{Tree, page, Row, high, node, Held, nothing, below}
use Rattle.merkle_tree_theory.specs.Page.{row_pairs}
use Rattle.merkle_tree_theory.specs.Stream.{page_digest}
use Rattle.merkle_tree_theory.specs.Canonical.{IsTreeOf}
use Rattle.merkle_tree_theory.specs.declared.page_format.PageFormat.{PageFormat}

-- the entry of a page with these pairs and this digest; none where there is no pair
abbrev pub entry_of : {K : Type 0} → List (K × List ℕ) → List ℕ → List (Entry K (List ℕ))
entry_of [] d = []
entry_of (p ∷ ps) d = record { first = p.0; last = last_key p.0 ps; digest = d } ∷ []

module _ {K : Type 0} (format : PageFormat) (bytes_of : K → List ℕ) where
  abbrev mutual
    -- an entry for each page, which is before those of the pages below it: the first and the last key of its subtree, and its digest
    pub ranges_of : Tree K (List ℕ) → List (Entry K (List ℕ))
    ranges_of (page l c r) = entry_of (row_pairs r) (page_digest format bytes_of (page l c r)) ++ row_ranges r

    pub row_ranges : Row K (List ℕ) → List (Entry K (List ℕ))
    row_ranges (high h) = held_ranges h
    row_ranges (node h k d r) = held_ranges h ++ row_ranges r

    pub held_ranges : Held K (List ℕ) → List (Entry K (List ℕ))
    held_ranges nothing = []
    held_ranges (below t) = ranges_of t

module _ {K D : Type 0} where
  abbrev mutual
    -- s is the page t or one below it
    pub IsPageIn : Tree K D → Tree K D → Type 0
    IsPageIn s (page l c r) = (s ≡ page l c r) ⊎ IsPageInRow s r

    pub IsPageInRow : Tree K D → Row K D → Type 0
    IsPageInRow s (high h) = IsPageInHeld s h
    IsPageInRow s (node h k d r) = IsPageInHeld s h ⊎ IsPageInRow s r

    pub IsPageInHeld : Tree K D → Held K D → Type 0
    IsPageInHeld s nothing = ⊥
    IsPageInHeld s (below t) = IsPageIn s t

module _ {K : Type 0} (cmp : K → K → Ordering) (digest_of : K → List ℕ) (base : ℕ) where
  -- s is a page of the tree of the map m
  abbrev pub IsPageOf : Tree K (List ℕ) → List (K × List ℕ) → Type 0
  IsPageOf s m = (t : Tree K (List ℕ)) × IsTreeOf cmp digest_of base t m × IsPageIn s t

  -- the entries are the page ranges of the tree of the map m, in the format
  abbrev pub IsRangesOf : PageFormat → (K → List ℕ) → List (K × List ℕ) → List (Entry K (List ℕ)) → Type 0
  IsRangesOf format bytes_of m es = (t : Tree K (List ℕ)) × IsTreeOf cmp digest_of base t m × (es ≡ ranges_of format bytes_of t)

-- whatever has the interval laws and the laws on trees on the two lists is empty: so is what `diff` answers on lists of trees
abbrev pub NothingToAsk : {K : Type 0} → (K → K → Ordering) → List (Entry K (List ℕ)) → List (Entry K (List ℕ)) → Type 0
NothingToAsk {K} cmp ls ps = (found : List (Span K)) → IsDifference cmp ls ps found → SparesAgreed cmp ls ps found → found ≡ []

-- two pages have equal page ranges
abbrev pub SameRanges : {K : Type 0} → (K → K → Ordering) → PageFormat → (K → List ℕ) → Tree K (List ℕ) → Tree K (List ℕ) → Type 0
SameRanges cmp format bytes_of t u = SameEntries cmp (ranges_of format bytes_of t) (ranges_of format bytes_of u)

module _ {K H : Type 0} (cmp : K → K → Ordering) (digest_of : H → K → List ℕ) (bytes_of : K → List ℕ) where
  -- under any hasher and level base and in any page format, the page ranges of each map have the property
  abbrev pub RangesOfMaps : (List (Entry K (List ℕ)) → Type 0) → Type 0
  RangesOfMaps P =
      (hasher : H) (base : ℕ) (format : PageFormat) (m : List (K × List ℕ)) (es : List (Entry K (List ℕ))) → IsMap cmp m
      → IsRangesOf cmp (digest_of hasher) base format bytes_of m es → P es

  -- so are the page ranges of equal maps related
  abbrev pub RangesOfEqualMaps : (List (Entry K (List ℕ)) → List (Entry K (List ℕ)) → Type 0) → Type 0
  RangesOfEqualMaps R =
      (hasher : H) (base : ℕ) (format : PageFormat) (a b : List (K × List ℕ)) (es fs : List (Entry K (List ℕ))) → SameMap cmp (λ d e. d ≡ e) a b
      → IsRangesOf cmp (digest_of hasher) base format bytes_of a es → IsRangesOf cmp (digest_of hasher) base format bytes_of b fs → R es fs
