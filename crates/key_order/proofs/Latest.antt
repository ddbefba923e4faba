-- What a list of rows leaves that are set one after the other.
use Rattle.std.proofs.Common.{◌≡◌, Bool, true, false, cond, List, [], ◌∷◌, ◌++◌, Option, Some, None, refl, sym, ap, ◌∙◌, ◌⊎◌, inl, inr}
use Rattle.std.specs.List.{All, AllByRecursion}
use Rattle.std.specs.List.Sorted.{IsPermutation}
use Rattle.std.specs.Cmp.{IsTotalOrder}
use Rattle.std.specs.Ordering.{is_eq}
use Rattle.std.specs.declared.cmp.Ordering.{Ordering}
use Rattle.std.proofs.lemmas.List.Sorted.{All-permutation, IsPermutation-sym}
use Rattle.std.proofs.lemmas.List.Elements.{All-head, All-tail, All-cons, All-nil, All-from_recursion}
use Rattle.key_order.specs.Order.{Below}
use Rattle.key_order.specs.Map.{SameValue, IsMap, SameMap, get, set}
use Rattle.key_order.proofs.Bools.{is_equal}
use Rattle.key_order.proofs.Maps.{same_by_get}
use Rattle.key_order.proofs.Orders.{same_up, same_down, low_up, not_low_self}
use Rattle.key_order.proofs.Sets.{ascending_set, get_set}

module _ {K X : Type 0} (cmp : K → K → Ordering) where
  -- the map with each of the rows set, in turn
  abbrev pub set_each : List (K × X) → List (K × X) → List (K × X)
  set_each m [] = m
  set_each m (r ∷ rs) = set_each (set cmp m r.0 r.1) rs

  pub set_each-more : (m rs : List (K × X)) (r : K × X) → set_each m (rs ++ r ∷ []) ≡ set cmp (set_each m rs) r.0 r.1
  set_each-more m [] r = refl
  set_each-more m (s ∷ rs) r = set_each-more (set cmp m s.0 s.1) rs r

  -- the value of the last row with the key k, or the one before
  abbrev latest : Option X → List (K × X) → K → Option X
  latest before [] k = before
  latest before (r ∷ rs) k = latest (cond (is_eq (cmp r.0 k)) (Some r.1) before) rs k

  -- a row has another key, or this value
  abbrev Other : K → K × X → Type 0
  Other k r = is_eq (cmp r.0 k) ≡ false

  abbrev Alone : K → X → K × X → Type 0
  Alone k x r = is_eq (cmp r.0 k) ≡ true → r.1 ≡ x

  latest_none : (before : Option X) (rs : List (K × X)) (k : K) → All (Other k) rs → latest before rs k ≡ before
  latest_none before [] k a = refl
  latest_none before (r ∷ rs) k a =
      latest_none (cond (is_eq (cmp r.0 k)) (Some r.1) before) rs k (All-tail (Other k) r rs a) ∙ ap (λ b. cond b (Some r.1) before) (All-head (Other k) r rs a)

  latest_some : (before : Option X) (rs : List (K × X)) (k : K) (x : X) → All (Alone k x) rs → (before ≡ Some x) ⊎ (All (Other k) rs → ⊥) → latest before rs k ≡ Some x
  latest_some before [] k x a (inl e) = e
  latest_some before [] k x a (inr n) = absurd (n (All-nil (Other k)))
  latest_some before (r ∷ rs) k x a h =
      latest_some (cond (is_eq (cmp r.0 k)) (Some r.1) before) rs k x (All-tail (Alone k x) r rs a) (go (is_eq (cmp r.0 k)) refl h)
    where
      go : (b : Bool) → is_eq (cmp r.0 k) ≡ b → (before ≡ Some x) ⊎ (All (Other k) (r ∷ rs) → ⊥) → (cond b (Some r.1) before ≡ Some x) ⊎ (All (Other k) rs → ⊥)
      go true e f = inl (ap Some (All-head (Alone k x) r rs a e))
      go false e (inl f) = inl f
      go false e (inr n) = inr (λ all. n (All-cons (Other k) r rs e all))

  got_none : (rs : List (K × X)) (k : K) → get cmp rs k ≡ None → All (Other k) rs
  got_none [] k e = All-nil (Other k)
  got_none (r ∷ rs) k e = go (is_eq (cmp r.0 k)) refl e (got_none rs k)
    where
      go : (b : Bool) → is_eq (cmp r.0 k) ≡ b → cond b (Some r.1) (get cmp rs k) ≡ None → (get cmp rs k ≡ None → All (Other k) rs) → All (Other k) (r ∷ rs)
      go true f e h = absurd (cc)
      go false f e h = All-cons (Other k) r rs f (h e)

module _ {K X : Type 0} (cmp : K → K → Ordering) (o : IsTotalOrder cmp) where
  below_other : (r s : K × X) (k : K) → is_eq (cmp r.0 k) ≡ true → Below cmp r.0 s.0 → is_eq (cmp s.0 k) ≡ false
  below_other r s k e b = go (is_eq (cmp s.0 k)) refl
    where
      go : (t : Bool) → is_eq (cmp s.0 k) ≡ t → t ≡ false
      go false f = refl
      go true f =
          let low : Below cmp r.0 k = low_up cmp o r.0 s.0 k b (same_up cmp o s.0 k (is_equal (cmp s.0 k) f)) in
          absurd (not_low_self cmp o r.0 (low_up cmp o r.0 k r.0 low (same_down cmp o r.0 k (is_equal (cmp r.0 k) e))))

  alone_behind : (r : K × X) (rs : List (K × X)) (k : K) (x : X) → is_eq (cmp r.0 k) ≡ true → AllByRecursion (λ s. Below cmp r.0 s.0) rs → AllByRecursion (Alone cmp k x) rs
  alone_behind r [] k x e a = tt
  alone_behind r (s ∷ rs) k x e a = ((λ f. let g : true ≡ false = sym f ∙ below_other r s k e a.0 in absurd (cc)), alone_behind r rs k x e a.1)

  got_some : (rs : List (K × X)) (k : K) (x : X) → IsMap cmp rs → get cmp rs k ≡ Some x → All (Alone cmp k x) rs × (All (Other cmp k) rs → ⊥)
  got_some [] k x m e = absurd (cc)
  got_some (r ∷ rs) k x m e = go (is_eq (cmp r.0 k)) refl e (got_some rs k x m.1)
    where
      go : (b : Bool) → is_eq (cmp r.0 k) ≡ b → cond b (Some r.1) (get cmp rs k) ≡ Some x
          → (get cmp rs k ≡ Some x → All (Alone cmp k x) rs × (All (Other cmp k) rs → ⊥)) → All (Alone cmp k x) (r ∷ rs) × (All (Other cmp k) (r ∷ rs) → ⊥)
      go true f e h =
          let is : r.1 ≡ x = cc in (
            All-cons (Alone cmp k x) r rs (λ _. is) (All-from_recursion (Alone cmp k x) rs (alone_behind r rs k x f m.0)),
            λ all. let g : true ≡ false = sym f
                ∙ All-head (Other cmp k) r rs all in absurd (cc),
          )
      go false f e h =
          let rest = h e in
          (All-cons (Alone cmp k x) r rs (λ g. let h : true ≡ false = sym g ∙ f in absurd (cc)) rest.0, λ all. rest.1 (All-tail (Other cmp k) r rs all))

  latest_is : (rs sorted : List (K × X)) (k : K) → IsPermutation rs sorted → IsMap cmp sorted → latest cmp None rs k ≡ get cmp sorted k
  latest_is rs sorted k p m = go (get cmp sorted k) refl
    where
      go : (x : Option X) → get cmp sorted k ≡ x → latest cmp None rs k ≡ x
      go None e = latest_none cmp None rs k (All-permutation (Other cmp k) sorted rs (IsPermutation-sym rs sorted p) (got_none cmp sorted k e))
      go (Some x) e =
          let h = got_some sorted k x m e in
          latest_some cmp None rs k x (All-permutation (Alone cmp k x) sorted rs (IsPermutation-sym rs sorted p) h.0) (inr (λ all. h.1 (All-permutation (Other cmp k) rs sorted p all)))

  get_each : (m rs : List (K × X)) (k : K) → get cmp (set_each cmp m rs) k ≡ latest cmp (get cmp m k) rs k
  get_each m [] k = refl
  get_each m (r ∷ rs) k = get_each (set cmp m r.0 r.1) rs k ∙ ap (λ b. latest cmp b rs k) (get_set cmp o m r.0 r.1 k (Some r.1) refl)

  pub ascending_each : (m rs : List (K × X)) → IsMap cmp m → IsMap cmp (set_each cmp m rs)
  ascending_each m [] a = a
  ascending_each m (r ∷ rs) a = ascending_each (set cmp m r.0 r.1) rs (ascending_set cmp o m r.0 r.1 a)

  -- rows that ascend, set in any order, leave the map of these rows
  pub set_in_any_order : (rs sorted : List (K × X)) → IsPermutation rs sorted → IsMap cmp sorted → SameMap cmp (λ x y. x ≡ y) (set_each cmp [] rs) sorted
  set_in_any_order rs sorted p m =
      same_by_get cmp o (λ x y. x ≡ y) (set_each cmp [] rs) sorted (ascending_each [] rs tt) m
      (λ k. value (get cmp (set_each cmp [] rs) k) (get cmp sorted k) (get_each [] rs k ∙ latest_is rs sorted k p m))
    where
      value : (a b : Option X) → a ≡ b → SameValue (λ x y. x ≡ y) a b
      value None None e = tt
      value None (Some b) e = absurd (let g : ⊥ = cc in g)
      value (Some a) None e = absurd (let g : ⊥ = cc in g)
      value (Some a) (Some b) e = cc
