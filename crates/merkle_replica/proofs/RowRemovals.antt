-- A row that is taken out, and its digest in the tree.
use Rattle.std.proofs.Common.{◌≡◌, ℕ, true, false, not, cond, List, [], ◌∷◌, sym, subst, arith}
use Rattle.std.specs.List.{remove}
use Rattle.std.specs.Cmp.{IsTotalOrder, alike_right}
use Rattle.std.specs.Ordering.{is_eq}
use Rattle.std.specs.declared.cmp.Ordering.{Ordering}
use Rattle.std.specs.declared.cmp.Ordering.TheVariants.{Less, Equal, Greater}
use Rattle.key_order.specs.Map.{IsMap, SameMap, has_key, del}
use Rattle.key_order.proofs.Dels.{ascending_del}
use Rattle.key_order.proofs.Places.{del_at_place, has_at_place, has_in_gap}
use Rattle.merkle_search_tree.specs.Loading.{digests}
use Rattle.merkle_tree_theory.specs.State.{State, map_of}
use Rattle.merkle_replica.specs.Contents.{IsKept}
use Rattle.key_order.specs.Places.{IsPlaceOf, IsGapFor}

module _ {K V D : Type 0} (cmp : K → K → Ordering) (o : IsTotalOrder cmp) (hash : V → D) where
  digests_del : (m : List (K × D)) (rows : List (K × V)) (k : K) → SameMap cmp (λ d c. d ≡ c) m (digests hash rows) → SameMap cmp (λ d c. d ≡ c) (del cmp m k) (digests hash (del cmp rows k))
  digests_del [] [] k h = tt
  digests_del [] (r ∷ rs) k h = absurd h
  digests_del (p ∷ ps) [] k h = absurd h
  digests_del (p ∷ ps) (r ∷ rs) k h =
      subst (λ q. SameMap cmp (λ d c. d ≡ c) (cond (not (is_eq q)) (p ∷ del cmp ps k) (del cmp ps k)) (digests hash (del cmp (r ∷ rs) k)))
      (sym (alike_right o p.0 r.0 k h.0)) (by (cmp k r.0) (digests_del ps rs k h.2))
    where
      by : (q : Ordering) → SameMap cmp (λ d c. d ≡ c) (del cmp ps k) (digests hash (del cmp rs k))
          → SameMap cmp (λ d c. d ≡ c) (cond (not (is_eq q)) (p ∷ del cmp ps k) (del cmp ps k)) (digests hash (cond (not (is_eq q)) (r ∷ del cmp rs k) (del cmp rs k)))
      by Less f = (h.0, h.1, f)
      by Equal f = f
      by Greater f = (h.0, h.1, f)

module _ {K V : Type 0} (cmp : K → K → Ordering) (o : IsTotalOrder cmp) where
  -- the row at the key's place, taken out
  pub removed_there : (rows : List (K × V)) (at : ℕ) (key : K) → IsMap cmp rows → IsPlaceOf cmp key rows at → remove rows at ≡ del cmp rows key
  removed_there [] at key up place = absurd (omega (arith, place.in_range))
  removed_there (r ∷ rows) at key up place = sym (del_at_place cmp o (r ∷ rows) at key r up place.in_range (place.here r))

  pub has_there : (rows : List (K × V)) (at : ℕ) (key : K) → IsPlaceOf cmp key rows at → has_key cmp rows key ≡ true
  has_there [] at key place = absurd (omega (arith, place.in_range))
  has_there (r ∷ rows) at key place = has_at_place cmp o (r ∷ rows) at key r place.in_range (place.here r)

  pub has_new : (rows : List (K × V)) (at : ℕ) (key : K) → IsGapFor cmp key rows at → has_key cmp rows key ≡ false
  has_new rows at key gap = has_in_gap cmp o rows at key gap.in_range gap.lower gap.higher

module _ {K V H : Type 0} (cmp : K → K → Ordering) (digest_of : H → V → List ℕ) where
  -- a row is taken out, and its key out of the tree
  pub kept_del : IsTotalOrder cmp → (rows rows' : List (K × V)) (old new : State K H) (key : K) → rows' ≡ del cmp rows key → map_of new ≡ del cmp (map_of old) key → new.hasher ≡ old.hasher
      → IsKept cmp digest_of (record { rows = rows; tree = old }) → IsKept cmp digest_of (record { rows = rows'; tree = new })
  kept_del o rows rows' old new key r m h kept =
      record {
        ascending = subst (IsMap cmp) (sym r) (ascending_del cmp key rows kept.ascending);
        digested = rw (r, m, h) (digests_del cmp o (digest_of old.hasher) (map_of old) rows key kept.digested);
      }
