-- A map with one key set.
use Rattle.std.proofs.Common.{◌≡◌, Bool, true, false, cond, List, [], ◌∷◌, Option, Some, refl, ◌∙◌, ap}
use Rattle.std.specs.List.{AllByRecursion}
use Rattle.std.specs.Cmp.{IsTotalOrder}
use Rattle.std.specs.Ordering.{is_eq, is_gt, is_lt}
use Rattle.std.specs.declared.cmp.Ordering.{Ordering}
use Rattle.std.specs.declared.cmp.Ordering.TheVariants.{Less, Equal, Greater}
use Rattle.key_order.specs.Order.{Below}
use Rattle.key_order.proofs.Orders.{low_up, low_low, same_up, same_down, not_both, turned}
use Rattle.key_order.specs.Map.{IsMap, get, set}
use Rattle.key_order.proofs.Bools.{is_equal}

module _ {K : Type 0} (cmp : K → K → Ordering) (o : IsTotalOrder cmp) where
  above : (k : K) (r : K) → cmp k r ≡ Greater → Below cmp r k
  above k r e = turned cmp o k r ∙ ap is_gt e

module _ {K X : Type 0} (cmp : K → K → Ordering) (o : IsTotalOrder cmp) where
  all_set : (m : List (K × X)) (x : K) (k : K) (d : X) → Below cmp x k → AllByRecursion (λ s. Below cmp x s.0) m → AllByRecursion (λ s. Below cmp x s.0) (set cmp m k d)
  all_set [] x k d h a = (h, tt)
  all_set (r ∷ rs) x k d h a = go (all_set rs x k d h a.1) (cmp k r.0) refl
    where
      go : AllByRecursion (λ s. Below cmp x s.0) (set cmp rs k d) → (w : Ordering) → cmp k r.0 ≡ w → AllByRecursion (λ s. Below cmp x s.0) (set cmp (r ∷ rs) k d)
      go f Less e = rw e (h, (a.0, a.1))
      go f Equal e = rw e (a.0, a.1)
      go f Greater e = rw e (a.0, f)

  all_from : (rs : List (K × X)) (k r : K) → Below cmp k r → AllByRecursion (λ s. Below cmp r s.0) rs → AllByRecursion (λ s. Below cmp k s.0) rs
  all_from [] k r h a = tt
  all_from (s ∷ ss) k r h a = (low_low cmp o k r s.0 h a.0, all_from ss k r h a.1)

  pub ascending_set : (m : List (K × X)) (k : K) (d : X) → IsMap cmp m → IsMap cmp (set cmp m k d)
  ascending_set [] k d a = (tt, tt)
  ascending_set (r ∷ rs) k d a = go (ascending_set rs k d a.1) (cmp k r.0) refl
    where
      go : IsMap cmp (set cmp rs k d) → (w : Ordering) → cmp k r.0 ≡ w → IsMap cmp (set cmp (r ∷ rs) k d)
      go f Less e = rw e ((ap is_lt e, all_from rs k r.0 (ap is_lt e) a.0), (a.0, a.1))
      go f Equal e = rw e (a.0, a.1)
      go f Greater e = rw e (all_set rs r.0 k d (above cmp o k r.0 e) a.0, f)

  -- what is found after a key was set
  pub get_set : (m : List (K × X)) (k : K) (d : X) (i : K) (n : Option X) → n ≡ Some d → get cmp (set cmp m k d) i ≡ cond (is_eq (cmp k i)) n (get cmp m i)
  get_set [] k d i n e = rw e refl
  get_set (r ∷ rs) k d i n e = go (get_set rs k d i n e) (cmp k r.0) refl
    where
      swap : (p q : Bool) (x y z : Option X) → (p ≡ true → q ≡ true → ⊥) → cond p x (cond q y z) ≡ cond q y (cond p x z)
      swap true true x y z h = absurd (h refl refl)
      swap true false x y z h = refl
      swap false true x y z h = refl
      swap false false x y z h = refl

      go : get cmp (set cmp rs k d) i ≡ cond (is_eq (cmp k i)) n (get cmp rs i) → (w : Ordering) → cmp k r.0 ≡ w → get cmp (set cmp (r ∷ rs) k d) i ≡ cond (is_eq (cmp k i)) n (get cmp (r ∷ rs) i)
      go f Less w = rw (w, e) refl
      go f Equal w = rw (w, e, o.congr k r.0 i w) (one (is_eq (cmp r.0 i)) (Some d) (Some r.1) (get cmp rs i))
        where
          one : (p : Bool) (x y z : Option X) → cond p x z ≡ cond p x (cond p y z)
          one true x y z = refl
          one false x y z = refl
      go f Greater w =
          rw w (ap (λ z. cond (is_eq (cmp r.0 i)) (Some r.1) z) f
          ∙ swap (is_eq (cmp r.0 i)) (is_eq (cmp k i)) (Some r.1) n (get cmp rs i)
          (λ p q. not_both cmp o i r.0 (same_down cmp o r.0 i (is_equal (cmp r.0 i) p)) (low_up cmp o r.0 k i (above cmp o k r.0 w) (same_up cmp o k i (is_equal (cmp k i) q)))))
