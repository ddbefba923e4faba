-- Sorted by start: place by place, as std's sort says it, and each range against all after it.
use Rattle.std.proofs.Common.{◌≡◌, ℕ, zero, suc, ◌+◌, get_or, false, List, [], ◌∷◌, map, arith, sym, ◌∙◌, subst, IsSortedByKey}
use Rattle.std.specs.Cmp.{IsTotalOrder}
use Rattle.std.specs.List.{AllByRecursion}
use Rattle.std.specs.Ordering.{is_lt}
use Rattle.std.specs.declared.cmp.Ordering.{Ordering}
use Rattle.key_order.specs.Interval.{Span}
use Rattle.key_order.specs.Order.{Upto}
use Rattle.key_order.proofs.Orders.{up_up, turned'}
use Rattle.merkle_diff.proofs.Each.{each-with}

-- no start is above a later one
abbrev pub IsAscendingByStart : {K : Type 0} → (K → K → Ordering) → List (Span K) → Type 0
IsAscendingByStart cmp [] = Unit {0}
IsAscendingByStart cmp (s ∷ ss) = AllByRecursion (λ t. Upto cmp s.first t.first) ss × IsAscendingByStart cmp ss

module _ {K A : Type 0} (cmp : K → K → Ordering) (o : IsTotalOrder cmp) (v : A → Span K) where
  abbrev Rises : List A → Type 0
  Rises = IsSortedByKey (λ a. (v a).first) cmp

  -- what stands at a place of the tail stands one place further in the whole
  further : (x : A) (xs : List A) (k : ℕ) (d : A) → is_lt (cmp (v (get_or (x ∷ xs) (suc (k + 1)) d)).first (v (get_or xs k d)).first) ≡ false
      → is_lt (cmp (v (get_or (x ∷ xs) (suc k + 1) d)).first (v (get_or xs k d)).first) ≡ false
  further x xs k d = let e : suc (k + 1) ≡ suc k + 1 = omega arith in subst (λ n. is_lt (cmp (v (get_or (x ∷ xs) n d)).first (v (get_or xs k d)).first) ≡ false) e

  rises-tail : (x : A) (xs : List A) → Rises (x ∷ xs) → Rises xs
  rises-tail x xs h k d z l =
      let e : suc k + 1 ≡ suc (k + 1) = omega arith in
      subst (λ n. is_lt (cmp (v (get_or (x ∷ xs) n d)).first (v (get_or xs k d)).first) ≡ false) e (h (suc k) d (omega arith) (omega arith))

  first-least : (x : A) (xs : List A) → Rises (x ∷ xs) → AllByRecursion (λ t. Upto cmp (v x).first t.first) (map v xs)
  first-least x [] h = tt
  first-least x (y ∷ ys) h =
      let u : Upto cmp (v x).first (v y).first = turned' cmp o (v y).first (v x).first ∙ h 0 x (omega arith) (omega arith) in (
        u,
        each-with (λ t. Upto cmp (v y).first t.first) (λ t. Upto cmp (v x).first t.first) (map v ys) (λ t w. up_up cmp o (v x).first (v y).first t.first u w)
            (first-least y ys (rises-tail x (y ∷ ys) h)),
      )

  pub ascends-by_start : (xs : List A) → Rises xs → IsAscendingByStart cmp (map v xs)
  ascends-by_start [] h = tt
  ascends-by_start (x ∷ xs) h = (first-least x xs h, ascends-by_start xs (rises-tail x xs h))

  pub rises-by_start : (xs : List A) → IsAscendingByStart cmp (map v xs) → Rises xs
  rises-by_start [] h k d z l = absurd (omega arith)
  rises-by_start (x ∷ []) h k d z l = absurd (omega arith)
  rises-by_start (x ∷ y ∷ ys) h zero d z l = sym (turned' cmp o (v y).first (v x).first) ∙ h.0.0
  rises-by_start (x ∷ y ∷ ys) h (suc k) d z l = further x (y ∷ ys) k d (rises-by_start (y ∷ ys) h.1 k d (omega arith) (omega arith))
