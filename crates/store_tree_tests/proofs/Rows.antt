-- What rows in memory are of the map.
use Rattle.std.proofs.Common.{◌≡◌, true, false, ◌<◌, ◌+◌, bytes_eq, ℕ, List, [], ◌∷◌, ◌++◌, drop, length, get_or, map, Some, refl, sym, ap, ◌∙◌, append_assoc, string_bytes}
use Rattle.std.proofs.lemmas.List.{drop_more, map-append}
use Rattle.std.proofs.lemmas.Map.Text.{is_eq-slice_cmp}
use Rattle.key_order.specs.Map.{get}
use Rattle.key_order.specs.Text.{Text}
use Rattle.merkle_tree_theory.specs.Gap.{Gap, is_in_gap, pairs_within}
use Rattle.store_tree.specs.Cells.{bytes_order}
use Rattle.store_tree.specs.Maps.{bytes_pair}

abbrev pub AreLookedAt : List (Text × List ℕ) → List ℕ → List (Text × List ℕ) → Type 0
AreLookedAt rows key left = get bytes_order (map bytes_pair rows) key ≡ get bytes_order (map bytes_pair left) key

looks_past : (row : Text × List ℕ) (rows : List (Text × List ℕ)) (key : List ℕ) → bytes_eq (string_bytes row.0) key ≡ false
    → get bytes_order (map bytes_pair (row ∷ rows)) key ≡ get bytes_order (map bytes_pair rows) key
looks_past row rows key other = rw (is_eq-slice_cmp (string_bytes row.0) key ∙ other) refl

looks_at : (row : Text × List ℕ) (rows : List (Text × List ℕ)) (key : List ℕ) → bytes_eq (string_bytes row.0) key ≡ true
    → get bytes_order (map bytes_pair (row ∷ rows)) key ≡ Some row.1
looks_at row rows key same = rw (is_eq-slice_cmp (string_bytes row.0) key ∙ same) refl

module _ (rows : List (Text × List ℕ)) (i : ℕ) (x : Text × List ℕ) {row : Text × List ℕ} (key : List ℕ) (within : i < length rows) (at : row ≡ get_or rows i x) where
  left : drop i rows ≡ row ∷ drop (i + 1) rows
  left = drop_more rows i x within ∙ ap (λ r. r ∷ drop (i + 1) rows) (sym at)

  pub looks_on : bytes_eq (string_bytes row.0) key ≡ false → AreLookedAt rows key (drop i rows) → AreLookedAt rows key (drop (i + 1) rows)
  looks_on other looked = looked ∙ ap (λ rs. get bytes_order (map bytes_pair rs) key) left ∙ looks_past row (drop (i + 1) rows) key other

  pub looks_up : bytes_eq (string_bytes row.0) key ≡ true → AreLookedAt rows key (drop i rows) → get bytes_order (map bytes_pair rows) key ≡ Some row.1
  looks_up same looked = looked ∙ ap (λ rs. get bytes_order (map bytes_pair rs) key) left ∙ looks_at row (drop (i + 1) rows) key same

abbrev pub ArePassed : Gap (List ℕ) → List (Text × List ℕ) → List (Text × List ℕ) → List (Text × List ℕ) → Type 0
ArePassed gap rows found left =
    map bytes_pair found ++ pairs_within bytes_order gap (map bytes_pair left) ≡ pairs_within bytes_order gap (map bytes_pair rows)

module _ (gap : Gap (List ℕ)) (rows found : List (Text × List ℕ)) (row : Text × List ℕ) (left : List (Text × List ℕ)) where
  pub passes_by : is_in_gap bytes_order (string_bytes row.0) gap ≡ false → ArePassed gap rows found (row ∷ left) → ArePassed gap rows found left
  passes_by out passed = ap (λ ps. map bytes_pair found ++ ps) (sym skipped) ∙ passed
    where
      skipped : pairs_within bytes_order gap (map bytes_pair (row ∷ left)) ≡ pairs_within bytes_order gap (map bytes_pair left)
      skipped = rw out refl

  pub passes_in : (new : Text × List ℕ) → is_in_gap bytes_order (string_bytes row.0) gap ≡ true → string_bytes new.0 ≡ string_bytes row.0 → new.1 ≡ row.1
      → ArePassed gap rows found (row ∷ left) → ArePassed gap rows (found ++ new ∷ []) left
  passes_in new within key digest passed =
      let more : map bytes_pair (found ++ new ∷ []) ≡ map bytes_pair found ++ bytes_pair row ∷ [] =
      map-append bytes_pair found (new ∷ []) ∙ (λ i. map bytes_pair found ++ (key i, digest i) ∷ []) in
      ap (λ ps. ps ++ pairs_within bytes_order gap (map bytes_pair left)) more
      ∙ append_assoc (map bytes_pair found) (bytes_pair row ∷ []) (pairs_within bytes_order gap (map bytes_pair left))
      ∙ ap (λ ps. map bytes_pair found ++ ps) (sym taken) ∙ passed
    where
      taken : pairs_within bytes_order gap (map bytes_pair (row ∷ left)) ≡ bytes_pair row ∷ pairs_within bytes_order gap (map bytes_pair left)
      taken = rw within refl

pub ruleset passing = (passes_by, passes_in)
