-- Laws of a total order, as chains of keys.
use Rattle.std.proofs.Common.{◌≡◌, ℕ, Bool, true, false, not, ◌&&◌, List, [], ◌∷◌, refl, sym, ◌∙◌, ap, ◌⊎◌, inl, inr, arith, rules}
use Rattle.std.proofs.lemmas.Grind.{common_steps}
use Rattle.std.specs.Cmp.{IsTotalOrder, upto as upto_trans, tied_itself, tied_back, alike_right}
use Rattle.std.specs.Ordering.{is_gt, is_lt, ordering_reverse}
use Rattle.std.specs.declared.cmp.Ordering.{Ordering}
use Rattle.std.specs.declared.cmp.Ordering.TheVariants.{Less, Equal, Greater}
use Rattle.key_order.specs.Order.{Upto, Below, Same}
use Rattle.key_order.proofs.Bools.{which}

lt_reverse : (r : Ordering) → is_lt (ordering_reverse r) ≡ is_gt r
lt_reverse Less = refl
lt_reverse Equal = refl
lt_reverse Greater = refl

gt_reverse : (r : Ordering) → is_gt (ordering_reverse r) ≡ is_lt r
gt_reverse Less = refl
gt_reverse Equal = refl
gt_reverse Greater = refl

lt_not_gt : (r : Ordering) → is_lt r ≡ true → is_gt r ≡ false
lt_not_gt Less h = refl
lt_not_gt Equal h = refl
lt_not_gt Greater h = cc

neither : (r : Ordering) → is_gt r ≡ false → is_lt r ≡ false → r ≡ Equal
neither Less h k = cc
neither Equal h k = refl
neither Greater h k = cc

module _ {K : Type 0} (cmp : K → K → Ordering) (o : IsTotalOrder cmp) where
  -- `b < a` is the answer where `a <= b` is not
  pub turned : (a b : K) → is_lt (cmp b a) ≡ is_gt (cmp a b)
  turned a b = ap is_lt (o.antisymm b a) ∙ lt_reverse (cmp a b)

  pub turned' : (a b : K) → is_gt (cmp b a) ≡ is_lt (cmp a b)
  turned' a b = ap is_gt (o.antisymm b a) ∙ gt_reverse (cmp a b)

  pub either : (a b : K) → Upto cmp a b ⊎ Below cmp b a
  either a b = go (which (is_gt (cmp a b)))
    where
      go : (is_gt (cmp a b) ≡ false) ⊎ (is_gt (cmp a b) ≡ true) → Upto cmp a b ⊎ Below cmp b a
      go (inl h) = inl h
      go (inr h) = inr (turned a b ∙ h)

  pub not_both : (a b : K) → Upto cmp a b → Below cmp b a → ⊥
  not_both a b h k = let e = sym (turned a b) ∙ k in cc

  pub up_up : (a b c : K) → Upto cmp a b → Upto cmp b c → Upto cmp a c
  up_up a b c h k = upto_trans o a b c h k

  -- the rest follow from these
  pub up_low : (a b c : K) → Upto cmp a b → Below cmp b c → Below cmp a c
  up_low a b c h k = go (either c a)
    where
      go : Upto cmp c a ⊎ Below cmp a c → Below cmp a c
      go (inl m) = absurd (not_both c b (up_up c a b m h) k)
      go (inr m) = m

  pub low_up : (a b c : K) → Below cmp a b → Upto cmp b c → Below cmp a c
  low_up a b c h k = go (either c a)
    where
      go : Upto cmp c a ⊎ Below cmp a c → Below cmp a c
      go (inl m) = absurd (not_both b a (up_up b c a k m) h)
      go (inr m) = m

  pub low_is_up : (a b : K) → Below cmp a b → Upto cmp a b
  low_is_up a b h = lt_not_gt (cmp a b) h

  pub low_low : (a b c : K) → Below cmp a b → Below cmp b c → Below cmp a c
  low_low a b c h k = low_up a b c h (low_is_up b c k)

  pub up_self : (a : K) → Upto cmp a a
  up_self a = ap is_gt (tied_itself o a)

  pub not_low_self : (a : K) → Below cmp a a → ⊥
  not_low_self a h = not_both a a (up_self a) h

  pub same_up : (a b : K) → Same cmp a b → Upto cmp a b
  same_up a b h = ap is_gt h

  pub same_down : (a b : K) → Same cmp a b → Upto cmp b a
  same_down a b h = ap is_gt (tied_back o a b h)

  pub same_from : (a b : K) → Upto cmp a b → Upto cmp b a → Same cmp a b
  same_from a b h k = neither (cmp a b) h (sym (turned' a b) ∙ k)

  -- equal keys compare alike
  pub compare-same : (a b c d : K) → Same cmp a b → Same cmp c d → cmp a c ≡ cmp b d
  compare-same a b c d h k = o.congr a b c h ∙ alike_right o c d b k

  pub upto-same : (a b c d : K) → Same cmp a b → Same cmp c d → Upto cmp a c → Upto cmp b d
  upto-same a b c d h k u = sym (ap is_gt (compare-same a b c d h k)) ∙ u

  pub below-same : (a b c d : K) → Same cmp a b → Same cmp c d → Below cmp a c → Below cmp b d
  below-same a b c d h k l = sym (ap is_lt (compare-same a b c d h k)) ∙ l

  -- what `grind` needs of an order
  pub ruleset chains = (arith, common_steps, up_up, up_low, low_up, low_low, low_is_up, not_both, not_low_self, up_self)
