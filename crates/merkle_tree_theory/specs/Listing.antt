-- What a list of page ranges says of the map of its tree.
use Rattle.std.specs.Prelude.{◌≡◌, ℕ, List, [], ◌∷◌, ⊤}
use Rattle.std.specs.List.{AllByRecursion}
use Rattle.std.specs.declared.cmp.Ordering.{Ordering}
use Rattle.key_order.specs.Order.{Same}
use Rattle.key_order.specs.Interval.{is_in}
use Rattle.key_order.specs.Map.{IsMap, SameMap, last_key, rows_at}
use Rattle.merkle_diff.specs.Entry.{Entry, span_of}
use Rattle.merkle_tree_theory.specs.Page.{pairs}
use Rattle.merkle_tree_theory.specs.Ranges.{IsPageOf, IsRangesOf}
use Rattle.merkle_tree_theory.specs.Stream.{page_digest}
use Rattle.merkle_tree_theory.specs.declared.page_format.PageFormat.{PageFormat}

module _ {K D P : Type 0} (cmp : K → K → Ordering) where
  -- the first entry spans the whole map, and only the empty map has no entry
  abbrev pub IsWhole : List (K × D) → List (Entry K P) → Type 0
  IsWhole [] [] = ⊤
  IsWhole [] (e ∷ es) = ⊥
  IsWhole (p ∷ ps) [] = ⊥
  IsWhole (p ∷ ps) (e ∷ es) = Same cmp e.first p.0 × Same cmp e.last (last_key p.0 ps)

  -- the pairs of a map within an entry
  abbrev pub entry_rows : Entry K P → List (K × D) → List (K × D)
  entry_rows e = rows_at (λ k. is_in cmp k (span_of e))

  module _ {T : Type 0} (IsPageOf : T → List (K × D) → Type 0) (dig : T → P) (pairs : T → List (K × D)) where
    -- `es` lists pages of the map's tree: its first entry spans the map, and each entry is that of a page whose map is the map within the entry
    pub record IsListing (m : List (K × D)) (es : List (Entry K P)) : Type 0 where
      pub whole : IsWhole m es
      pub pages : AllByRecursion (λ e. (t : T) × IsPageOf t m × (dig t ≡ e.digest) × SameMap cmp (λ d c. d ≡ c) (pairs t) (entry_rows e m)) es

-- `es` lists pages of the tree of the map m, with their digests in a format
abbrev pub ListsPages : {K : Type 0} → (K → K → Ordering) → (K → List ℕ) → ℕ → PageFormat → (K → List ℕ) → List (K × List ℕ) → List (Entry K (List ℕ)) → Type 0
ListsPages cmp digest_of base format bytes_of m es = IsListing cmp (IsPageOf cmp digest_of base) (page_digest format bytes_of) pairs m es

-- under any hasher and level base and in any page format, the page ranges of each map list pages of its tree
abbrev pub RangesListPages : {K H : Type 0} → (K → K → Ordering) → (H → K → List ℕ) → (K → List ℕ) → Type 0
RangesListPages {K} {H} cmp digest_of bytes_of =
    (hasher : H) (base : ℕ) (format : PageFormat) (m : List (K × List ℕ)) (es : List (Entry K (List ℕ))) → IsMap cmp m
    → IsRangesOf cmp (digest_of hasher) base format bytes_of m es → ListsPages cmp (digest_of hasher) base format bytes_of m es
