-- Which keys a map has, and its bounds.
use Rattle.std.proofs.Common.{◌≡◌, Bool, true, false, cond, List, [], ◌∷◌, Option, Some, None, refl, sym, ◌⊎◌, inl, inr, subst}
use Rattle.std.specs.Option.{option_map}
use Rattle.std.specs.List.{AllByRecursion}
use Rattle.std.specs.Cmp.{IsTotalOrder, tied_itself}
use Rattle.std.specs.Ordering.{is_eq}
use Rattle.std.specs.declared.cmp.Ordering.{Ordering}
use Rattle.key_order.specs.Order.{Upto, Below, Same}
use Rattle.key_order.specs.Map.{IsPresent, IsMap, get, last_key}
use Rattle.key_order.proofs.Bools.{which, is_equal}
use Rattle.key_order.proofs.Maps.{at_head, get_same}
use Rattle.key_order.proofs.Orders.{up_up, low_up, same_up, same_down, low_is_up, up_self}
use Rattle.merkle_search_tree.specs.Loading.{digests}

module _ {K : Type 0} (cmp : K → K → Ordering) (o : IsTotalOrder cmp) where
  module _ {X : Type 0} where
    pub present_head : (r : K × X) (rs : List (K × X)) → IsPresent (get cmp (r ∷ rs) r.0)
    present_head r rs = subst IsPresent (sym (at_head cmp o r rs r.0 (tied_itself o r.0))) tt

    pub present_more : (r : K × X) (rs : List (K × X)) (k : K) → IsPresent (get cmp rs k) → IsPresent (get cmp (r ∷ rs) k)
    present_more r rs k h = go (is_eq (cmp r.0 k))
      where
        go : (b : Bool) → IsPresent (cond b (Some r.1) (get cmp rs k))
        go true = tt
        go false = h

    pub present_one : (r : K × X) (rs : List (K × X)) (k : K) → IsPresent (get cmp (r ∷ rs) k) → Same cmp r.0 k ⊎ IsPresent (get cmp rs k)
    present_one r rs k h = go (which (is_eq (cmp r.0 k)))
      where
        go : (is_eq (cmp r.0 k) ≡ false) ⊎ (is_eq (cmp r.0 k) ≡ true) → Same cmp r.0 k ⊎ IsPresent (get cmp rs k)
        go (inl e) = inr (rw e at h)
        go (inr e) = inl (is_equal (cmp r.0 k) e)

    pub present_last : (r : K × X) (rs : List (K × X)) → IsPresent (get cmp (r ∷ rs) (last_key r.0 rs))
    present_last r [] = present_head r []
    present_last r (s ∷ ss) = present_more r (s ∷ ss) (last_key s.0 ss) (present_last s ss)

    below_found : (m : List (K × X)) (j k : K) → AllByRecursion (λ s. Below cmp j s.0) m → IsPresent (get cmp m k) → Below cmp j k
    below_found [] j k h p = absurd p
    below_found (r ∷ rs) j k h p = go (below_found rs j k h.1) (present_one r rs k p)
      where
        go : (IsPresent (get cmp rs k) → Below cmp j k) → Same cmp r.0 k ⊎ IsPresent (get cmp rs k) → Below cmp j k
        go f (inl e) = low_up cmp o j r.0 k h.0 (same_up cmp o r.0 k e)
        go f (inr e) = f e

    pub first_bound : (r : K × X) (rs : List (K × X)) (k : K) → IsMap cmp (r ∷ rs) → IsPresent (get cmp (r ∷ rs) k) → Upto cmp r.0 k
    first_bound r rs k a p = go (present_one r rs k p)
      where
        go : Same cmp r.0 k ⊎ IsPresent (get cmp rs k) → Upto cmp r.0 k
        go (inl e) = same_up cmp o r.0 k e
        go (inr e) = low_is_up cmp o r.0 k (below_found rs r.0 k a.0 e)

    up_to_last : (r : K × X) (rs : List (K × X)) → IsMap cmp (r ∷ rs) → Upto cmp r.0 (last_key r.0 rs)
    up_to_last r [] a = up_self cmp o r.0
    up_to_last r (s ∷ ss) a = up_up cmp o r.0 s.0 (last_key s.0 ss) (low_is_up cmp o r.0 s.0 a.0.0) (up_to_last s ss a.1)

    pub last_bound : (r : K × X) (rs : List (K × X)) (k : K) → IsMap cmp (r ∷ rs) → IsPresent (get cmp (r ∷ rs) k) → Upto cmp k (last_key r.0 rs)
    last_bound r [] k a p = go (present_one r [] k p)
      where
        go : Same cmp r.0 k ⊎ ⊥ → Upto cmp k r.0
        go (inl e) = same_down cmp o r.0 k e
        go (inr e) = absurd e
    last_bound r (s ∷ ss) k a p = go (last_bound s ss k a.1) (up_to_last r (s ∷ ss) a) (present_one r (s ∷ ss) k p)
      where
        go : (IsPresent (get cmp (s ∷ ss) k) → Upto cmp k (last_key s.0 ss)) → Upto cmp r.0 (last_key s.0 ss) → Same cmp r.0 k ⊎ IsPresent (get cmp (s ∷ ss) k) → Upto cmp k (last_key s.0 ss)
        go f u (inl e) = up_up cmp o k r.0 (last_key s.0 ss) (same_down cmp o r.0 k e) u
        go f u (inr e) = f e

    -- an equal key is there too
    pub present_same : (m : List (K × X)) (k j : K) → Same cmp k j → IsPresent (get cmp m k) → IsPresent (get cmp m j)
    present_same m k j e p = subst IsPresent (get_same cmp o m k j e) p

  module _ {V D : Type 0} (hash : V → D) where
    pub get_digests : (m : List (K × V)) (k : K) → get cmp (digests hash m) k ≡ option_map hash (get cmp m k)
    get_digests [] k = refl
    get_digests (r ∷ rs) k = go (is_eq (cmp r.0 k)) (get_digests rs k)
      where
        go : (b : Bool) → get cmp (digests hash rs) k ≡ option_map hash (get cmp rs k) → cond b (Some (hash r.1)) (get cmp (digests hash rs) k) ≡ option_map hash (cond b (Some r.1) (get cmp rs k))
        go true h = refl
        go false h = h

    all_digests : (m : List (K × V)) (k : K) → AllByRecursion (λ s. Below cmp k s.0) m → AllByRecursion (λ s. Below cmp k s.0) (digests hash m)
    all_digests [] k h = tt
    all_digests (r ∷ rs) k h = (h.0, all_digests rs k h.1)

    pub ascending_digests : (m : List (K × V)) → IsMap cmp m → IsMap cmp (digests hash m)
    ascending_digests [] a = tt
    ascending_digests (r ∷ rs) a = (all_digests rs r.0 a.0, ascending_digests rs a.1)

    mapped : (v : Option V) → IsPresent (option_map hash v) → IsPresent v
    mapped None p = p
    mapped (Some x) p = tt

    unmapped : (v : Option V) → IsPresent v → IsPresent (option_map hash v)
    unmapped None p = p
    unmapped (Some x) p = tt

    pub present_from : (m : List (K × V)) (k : K) → IsPresent (get cmp (digests hash m) k) → IsPresent (get cmp m k)
    present_from m k p = mapped (get cmp m k) (subst IsPresent (get_digests m k) p)

    pub present_to : (m : List (K × V)) (k : K) → IsPresent (get cmp m k) → IsPresent (get cmp (digests hash m) k)
    present_to m k p = subst IsPresent (sym (get_digests m k)) (unmapped (get cmp m k) p)
