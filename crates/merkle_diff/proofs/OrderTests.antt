-- The tests of the order and of spans.
use Rattle.std.proofs.Common.{◌≡◌, Bool, true, false, not, ◌&&◌, ◌||◌, refl, sym, ◌∙◌, ap}
use Rattle.std.proofs.lemmas.Bool.{not-true, not-false, and_parts}
use Rattle.std.specs.Cmp.{IsTotalOrder, upto as upto_trans, tied_back}
use Rattle.std.specs.Ordering.{is_gt, is_eq}
use Rattle.std.specs.declared.cmp.Ordering.{Ordering}
use Rattle.key_order.specs.Interval.{Span, Meets, IsWithin, SameSpan, meets, is_within, same_span}
use Rattle.key_order.specs.Order.{Upto, Below, Same, upto}
use Rattle.key_order.proofs.Bools.{is_equal}
use Rattle.key_order.proofs.Orders.{turned, same_from, up_self}

pub not-or : (a b : Bool) → not (a || b) ≡ true → a ≡ false
not-or true b h = cc
not-or false b h = refl

module _ {K : Type 0} (cmp : K → K → Ordering) (o : IsTotalOrder cmp) where
  pub by_upto : (a b : K) → upto cmp a b ≡ true → Upto cmp a b
  by_upto a b h = not-true (is_gt (cmp a b)) h

  pub by_above : (a b : K) → upto cmp a b ≡ false → Below cmp b a
  by_above a b h = turned cmp o a b ∙ not-false (is_gt (cmp a b)) h

  pub same_trans : (a b c : K) → Same cmp a b → Same cmp b c → Same cmp a c
  same_trans a b c h k = o.congr a b c h ∙ k

  pub meets_by : (s t : Span K) → meets cmp s t ≡ true → Meets cmp s t
  meets_by s t h = let p = and_parts (upto cmp s.first t.last) (upto cmp t.first s.last) h in (by_upto s.first t.last p.0, by_upto t.first s.last p.1)

  pub to_meets : (s t : Span K) → Meets cmp s t → meets cmp s t ≡ true
  to_meets s t h = ap (λ b. not b && upto cmp t.first s.last) h.0 ∙ ap not h.1

  pub not_meets : (s t : Span K) → meets cmp s t ≡ false → ¬ (Meets cmp s t)
  not_meets s t h m = let e = sym (to_meets s t m) ∙ h in cc

  pub same-self : (k : K) → Same cmp k k
  same-self k = same_from cmp o k k (up_self cmp o k) (up_self cmp o k)

  pub to_upto : (a b : K) → Upto cmp a b → upto cmp a b ≡ true
  to_upto a b h = ap not h

  pub not_upto : (a b : K) → Below cmp b a → upto cmp a b ≡ false
  not_upto a b h = ap not (sym (turned cmp o a b) ∙ h)

  pub to_within : (s t : Span K) → IsWithin cmp s t → is_within cmp s t ≡ true
  to_within s t h = ap (λ b. b && upto cmp s.last t.last) (to_upto t.first s.first h.0) ∙ to_upto s.last t.last h.1

  pub within_by : (s t : Span K) → is_within cmp s t ≡ true → IsWithin cmp s t
  within_by s t h =
      let p = and_parts (upto cmp t.first s.first) (upto cmp s.last t.last) h in
      (by_upto t.first s.first p.0, by_upto s.last t.last p.1)

  pub not_within : (s t : Span K) → ¬ (IsWithin cmp s t) → is_within cmp s t ≡ false
  not_within s t n = go (is_within cmp s t) refl
    where
      go : (b : Bool) → is_within cmp s t ≡ b → b ≡ false
      go true e = absurd (n (within_by s t e))
      go false e = refl

  pub within_self : (s : Span K) → is_within cmp s s ≡ true
  within_self s = to_within s s (up_self cmp o s.first, up_self cmp o s.last)

  pub within_trans : (r s t : Span K) → IsWithin cmp r s → IsWithin cmp s t → IsWithin cmp r t
  within_trans r s t h k = (upto_trans o t.first s.first r.first k.0 h.0, upto_trans o r.last s.last t.last h.1 k.1)

  pub same_back : (a b : K) → Same cmp a b → Same cmp b a
  same_back a b h = tied_back o a b h

  pub same_by : (s t : Span K) → same_span cmp s t ≡ true → SameSpan cmp s t
  same_by s t h = let p = and_parts (is_eq (cmp s.first t.first)) (is_eq (cmp s.last t.last)) h in (is_equal (cmp s.first t.first) p.0, is_equal (cmp s.last t.last) p.1)
