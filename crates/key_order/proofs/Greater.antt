-- Values of a total order are joined by the greater one.
use Rattle.std.proofs.Common.{◌≡◌, Bool, true, false, cond, refl, sym, ◌∙◌, ap, subst, ◌⊎◌, inl, inr}
use Rattle.std.specs.Cmp.{IsTotalOrder, tied_itself, alike_right}
use Rattle.std.specs.Ordering.{ord_max, eq_by_cmp, is_eq, is_lt}
use Rattle.std.specs.declared.cmp.Ordering.{Ordering}
use Rattle.key_order.specs.Join.{IsJoining}
use Rattle.key_order.specs.Order.{Below, Same, Upto}
use Rattle.key_order.proofs.Bools.{which, is_equal}
use Rattle.key_order.proofs.Orders.{either, low_is_up, low_low, not_both, same_from, up_self, up_up}

module _ {V : Type 0} (cmp : V → V → Ordering) (o : IsTotalOrder cmp) (eq : V → V → Bool) (ties : (a b : V) → eq a b ≡ eq_by_cmp cmp a b) where
  same_eq : (a b : V) → Same cmp a b → eq a b ≡ true
  same_eq a b h = ties a b ∙ ap is_eq h

  eq_same : (a b : V) → eq a b ≡ true → Same cmp a b
  eq_same a b h = is_equal (cmp a b) (sym (ties a b) ∙ h)

  itself : (a : V) → eq a a ≡ true
  itself a = same_eq a a (tied_itself o a)

  along : (a b : V) → a ≡ b → eq a b ≡ true
  along a b h = subst (λ x. eq a x ≡ true) h (itself a)

  -- the first is greater, or the second is at least as great
  first : (a b : V) → Below cmp b a → ord_max cmp a b ≡ a
  first a b h = rw h refl

  second : (a b : V) → Upto cmp a b → ord_max cmp a b ≡ b
  second a b h = by (which (is_lt (cmp b a)))
    where
      by : (is_lt (cmp b a) ≡ false) ⊎ (is_lt (cmp b a) ≡ true) → ord_max cmp a b ≡ b
      by (inl f) = rw f refl
      by (inr f) = absurd (not_both cmp o a b h f)

  comm : (a b : V) → Upto cmp a b ⊎ Below cmp b a → Upto cmp b a ⊎ Below cmp a b → eq (ord_max cmp a b) (ord_max cmp b a) ≡ true
  comm a b (inl h) (inl k) = rw (second a b h, second b a k) (same_eq b a (same_from cmp o b a k h))
  comm a b (inl h) (inr k) = rw (second a b h, first b a k) (itself b)
  comm a b (inr h) (inl k) = rw (first a b h, second b a k) (itself a)
  comm a b (inr h) (inr k) = absurd (not_both cmp o b a (low_is_up cmp o b a h) k)

  assoc : (a b c : V) → Upto cmp a b ⊎ Below cmp b a → Upto cmp b c ⊎ Below cmp c b → ord_max cmp (ord_max cmp a b) c ≡ ord_max cmp a (ord_max cmp b c)
  assoc a b c (inl h) (inl k) = rw (second a b h, second b c k, second a c (up_up cmp o a b c h k)) refl
  assoc a b c (inl h) (inr k) = rw (second a b h, first b c k, second a b h) refl
  assoc a b c (inr h) (inl k) = rw (first a b h, second b c k) refl
  assoc a b c (inr h) (inr k) = rw (first a b h, first b c k, first a b h, first a c (low_low cmp o c b a k h)) refl

  respects : (a b c d : V) → eq a b ≡ true → eq c d ≡ true → cmp c a ≡ cmp d b → eq (ord_max cmp a c) (ord_max cmp b d) ≡ true
  respects a b c d p q r = by (is_lt (cmp d b)) (ap is_lt r)
    where
      by : (w : Bool) → is_lt (cmp c a) ≡ w → eq (cond (is_lt (cmp c a)) a c) (cond w b d) ≡ true
      by true e = rw e p
      by false e = rw e q

  -- the greater of two values is a join
  pub greater_joining : IsJoining eq (ord_max cmp)
  greater_joining = record {
    idempotent = λ a. along (ord_max cmp a a) a (second a a (up_self cmp o a));
    commutative = λ a b. comm a b (either cmp o a b) (either cmp o b a);
    associative = λ a b c. along (ord_max cmp (ord_max cmp a b) c) (ord_max cmp a (ord_max cmp b c)) (assoc a b c (either cmp o a b) (either cmp o b c));
    respects = λ a b c d p q. respects a b c d p q (o.congr c d a (eq_same c d q) ∙ alike_right o a b d (eq_same a b p));
  }
