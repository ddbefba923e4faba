-- Where a key is among the pairs of a map, or would go, and what an edit at that place makes of the map.
use Rattle.std.proofs.Common.{◌≡◌, ℕ, zero, suc, ◌<◌, ◌≤◌, true, false, List, [], ◌∷◌, length, get_or, set as list_set, Some, None, Result, Ok, Err, IfOk, IfErr, refl, sym, ◌∙◌, ap, arith}
use Rattle.std.proofs.lemmas.Bool.{or_right}
use Rattle.std.specs.List.{AllByRecursion, AllWithin, insert, remove}
use Rattle.std.specs.List.Sorted.{IsNonDecreasingBy, IsSearchInRange, IsBinarySearchResult}
use Rattle.std.specs.Cmp.{IsTotalOrder, tied_back}
use Rattle.std.specs.Ordering.{ordering_index, ordering_reverse, is_eq, is_lt}
use Rattle.std.specs.declared.cmp.Ordering.{Ordering}
use Rattle.std.specs.declared.cmp.Ordering.TheVariants.{Less, Equal, Greater}
use Rattle.key_order.specs.Order.{Below, Same}
use Rattle.key_order.specs.Map.{IsMap, get, has_key, set, del}
use Rattle.key_order.specs.Places.{IsPlaceOf, IsGapFor}
use Rattle.key_order.proofs.Bools.{is_less}
use Rattle.key_order.proofs.Orders.{low_low, low_up, up_low, same_up}
use Rattle.key_order.proofs.Dels.{NoEqual, del-here, del-past, del-none}

upto_two : (r : Ordering) → ordering_index r ≤ 2
upto_two Less = omega arith
upto_two Equal = omega arith
upto_two Greater = omega arith

module _ {K : Type 0} (cmp : K → K → Ordering) (o : IsTotalOrder cmp) where
  seen_from_below : (a b : K) → cmp a b ≡ Less → cmp b a ≡ Greater
  seen_from_below a b h = o.antisymm b a ∙ ap ordering_reverse h

  seen_from_above : (a b : K) → cmp a b ≡ Greater → cmp b a ≡ Less
  seen_from_above a b h = o.antisymm b a ∙ ap ordering_reverse h

  -- of two keys the lower one compares no higher with a third
  index_rises : (a b k : K) → Below cmp a b → ordering_index (cmp a k) ≤ ordering_index (cmp b k)
  index_rises a b k h = go (cmp b k) refl
    where
      go : (w : Ordering) → cmp b k ≡ w → ordering_index (cmp a k) ≤ ordering_index (cmp b k)
      go Less e = rw (is_less (cmp a k) (low_low cmp o a b k h (ap is_lt e)), e) (omega arith)
      go Equal e = rw (is_less (cmp a k) (low_up cmp o a b k h (same_up cmp o b k e)), e) (omega arith)
      go Greater e = rw e (upto_two (cmp a k))

module _ {K X : Type 0} (cmp : K → K → Ordering) (o : IsTotalOrder cmp) where
  below_each : (rows : List (K × X)) (j : ℕ) (d : K × X) (k : K) → AllByRecursion (λ s. Below cmp k s.0) rows → j < length rows → Below cmp k (get_or rows j d).0
  below_each [] j d k all inside = absurd (omega arith)
  below_each (r ∷ rows) zero d k all inside = all.0
  below_each (r ∷ rows) (suc j) d k all inside = below_each rows j d k all.1 (omega arith)

  -- along a map the comparisons of its keys with a key rise, as a search by halving asks
  pub comparisons_rise : (rows : List (K × X)) (k : K) → IsMap cmp rows → IsNonDecreasingBy (λ r. ordering_index (cmp r.0 k)) rows
  comparisons_rise [] k up i j d le inside = absurd (omega arith)
  comparisons_rise (r ∷ rows) k up zero zero d le inside = omega arith
  comparisons_rise (r ∷ rows) k up zero (suc j) d le inside = index_rises cmp o r.0 (get_or rows j d).0 k (below_each rows j d r.0 up.0 (omega arith))
  comparisons_rise (r ∷ rows) k up (suc i) zero d le inside = absurd (omega arith)
  comparisons_rise (r ∷ rows) k up (suc i) (suc j) d le inside = comparisons_rise rows k up.1 i j d (omega arith) (omega arith)

  passed : (r : K × X) (rows : List (K × X)) (at : ℕ) (k : K) (d : K × X) → IsMap cmp (r ∷ rows) → at < length rows → Same cmp (get_or rows at d).0 k → cmp r.0 k ≡ Less
  passed r rows at k d up inside here = is_less (cmp r.0 k) (low_up cmp o r.0 (get_or rows at d).0 k (below_each rows at d r.0 up.0 inside) (same_up cmp o (get_or rows at d).0 k here))

  -- the value at a key is that at its place
  pub get_at_place : (rows : List (K × X)) (at : ℕ) (k : K) (d : K × X) → IsMap cmp rows → at < length rows → Same cmp (get_or rows at d).0 k → get cmp rows k ≡ Some (get_or rows at d).1
  get_at_place [] at k d up inside here = absurd (omega arith)
  get_at_place (r ∷ rows) zero k d up inside here = rw here refl
  get_at_place (r ∷ rows) (suc at) k d up inside here = let in_rows : at < length rows = omega arith in rw (passed r rows at k d up in_rows here) (get_at_place rows at k d up.1 in_rows here)

  -- a key that is there gets another value in its place
  pub set_at_place : (rows : List (K × X)) (at : ℕ) (k : K) (v : X) (d : K × X) → IsMap cmp rows → at < length rows → Same cmp (get_or rows at d).0 k
      → set cmp rows k v ≡ list_set rows at ((get_or rows at d).0, v)
  set_at_place [] at k v d up inside here = absurd (omega arith)
  set_at_place (r ∷ rows) zero k v d up inside here = rw (tied_back o r.0 k here) refl
  set_at_place (r ∷ rows) (suc at) k v d up inside here = let in_rows : at < length rows = omega arith in
      rw (seen_from_below cmp o r.0 k (passed r rows at k d up in_rows here)) (ap (λ t. r ∷ t) (set_at_place rows at k v d up.1 in_rows here))

  -- a key that would go to a place is not there
  pub get_in_gap : (rows : List (K × X)) (at : ℕ) (k : K) → at ≤ length rows → AllWithin (λ r. cmp r.0 k ≡ Less) rows 0 at
      → AllWithin (λ r. cmp r.0 k ≡ Greater) rows at (length rows) → get cmp rows k ≡ None
  get_in_gap [] at k within lower higher = refl
  get_in_gap (r ∷ rows) zero k within lower higher =
      rw (higher 0 r (omega arith) (omega arith))
      (get_in_gap rows zero k (omega arith) (λ j d from to. absurd (omega arith)) (λ j d from to. higher (suc j) d (omega arith) (omega arith)))
  get_in_gap (r ∷ rows) (suc at) k within lower higher =
      rw (lower 0 r (omega arith) (omega arith))
      (get_in_gap rows at k (omega arith) (λ j d from to. lower (suc j) d (omega arith) (omega arith)) (λ j d from to. higher (suc j) d (omega arith) (omega arith)))

  -- a new key goes to its place
  pub set_in_gap : (rows : List (K × X)) (at : ℕ) (k : K) (v : X) → at ≤ length rows → AllWithin (λ r. cmp r.0 k ≡ Less) rows 0 at
      → AllWithin (λ r. cmp r.0 k ≡ Greater) rows at (length rows) → set cmp rows k v ≡ insert rows at (k, v)
  set_in_gap [] zero k v within lower higher = refl
  set_in_gap [] (suc at) k v within lower higher = absurd (omega arith)
  set_in_gap (r ∷ rows) zero k v within lower higher = rw (seen_from_above cmp o r.0 k (higher 0 r (omega arith) (omega arith))) refl
  set_in_gap (r ∷ rows) (suc at) k v within lower higher =
      rw (seen_from_below cmp o r.0 k (lower 0 r (omega arith) (omega arith)))
      (ap (λ t. r ∷ t) (set_in_gap rows at k v (omega arith) (λ j d from to. lower (suc j) d (omega arith) (omega arith)) (λ j d from to. higher (suc j) d (omega arith) (omega arith))))

  none_above : (rows : List (K × X)) (j k : K) → Same cmp k j → AllByRecursion (λ s. Below cmp j s.0) rows → NoEqual cmp k rows
  none_above [] j k same all = tt
  none_above (r ∷ rows) j k same all = (λ e. let never = sym (up_low cmp o k j r.0 (same_up cmp o k j same) all.0) ∙ ap is_lt e in cc, none_above rows j k same all.1)

  -- the pair at a key's place goes with the key
  pub del_at_place : (rows : List (K × X)) (at : ℕ) (k : K) (d : K × X) → IsMap cmp rows → at < length rows → Same cmp (get_or rows at d).0 k → del cmp rows k ≡ remove rows at
  del_at_place [] at k d up inside here = absurd (omega arith)
  del_at_place (r ∷ rows) zero k d up inside here = let back = tied_back o r.0 k here in del-here cmp k r rows back ∙ del-none cmp k rows (none_above rows r.0 k back up.0)
  del_at_place (r ∷ rows) (suc at) k d up inside here =
      let in_rows : at < length rows = omega arith in
      del-past cmp k r rows (λ e. let never = sym (seen_from_below cmp o r.0 k (passed r rows at k d up in_rows here)) ∙ e in cc) ∙ ap (λ t. r ∷ t) (del_at_place rows at k d up.1 in_rows here)

  -- a key with a place is there
  pub has_at_place : (rows : List (K × X)) (at : ℕ) (k : K) (d : K × X) → at < length rows → Same cmp (get_or rows at d).0 k → has_key cmp rows k ≡ true
  has_at_place [] at k d inside here = absurd (omega arith)
  has_at_place (r ∷ rows) zero k d inside here = rw (tied_back o r.0 k here) refl
  has_at_place (r ∷ rows) (suc at) k d inside here = or_right (is_eq (cmp k r.0)) (has_key cmp rows k) (has_at_place rows at k d (omega arith) here)

  -- and one that would go to a place is not
  pub has_in_gap : (rows : List (K × X)) (at : ℕ) (k : K) → at ≤ length rows → AllWithin (λ r. cmp r.0 k ≡ Less) rows 0 at
      → AllWithin (λ r. cmp r.0 k ≡ Greater) rows at (length rows) → has_key cmp rows k ≡ false
  has_in_gap [] at k within lower higher = refl
  has_in_gap (r ∷ rows) zero k within lower higher =
      rw (seen_from_above cmp o r.0 k (higher 0 r (omega arith) (omega arith)))
      (has_in_gap rows zero k (omega arith) (λ j d from to. absurd (omega arith)) (λ j d from to. higher (suc j) d (omega arith) (omega arith)))
  has_in_gap (r ∷ rows) (suc at) k within lower higher =
      rw (seen_from_below cmp o r.0 k (lower 0 r (omega arith) (omega arith)))
      (has_in_gap rows at k (omega arith) (λ j d from to. lower (suc j) d (omega arith) (omega arith)) (λ j d from to. higher (suc j) d (omega arith) (omega arith)))

module _ {K V : Type 0} (cmp : K → K → Ordering) (o : IsTotalOrder cmp) where
  -- a search by halving ends at the key, or at the gap for it
  pub searched : (rows : List (K × V)) (key : K) (r : Result ℕ ℕ) → IsMap cmp rows → IsSearchInRange r (length rows) → IsBinarySearchResult (λ (row : K × V). cmp row.0 key) rows r
      → record { found : IfOk r (λ at. IsPlaceOf cmp key rows at); absent : IfErr r (λ at. IsGapFor cmp key rows at) }
  searched rows key (Ok at) up inside equal = record { found = record { in_range = inside; here = equal }; absent = tt }
  searched rows key (Err at) up inside parted =
      let parts = parted (comparisons_rise cmp o rows key up) in
      record { found = tt; absent = record { in_range = inside; lower = parts.0; higher = parts.1 } }
