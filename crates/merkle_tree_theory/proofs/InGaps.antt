-- Keys in gaps, and the pairs within them.
use Rattle.std.proofs.Common.{◌≡◌, Bool, true, false, ◌&&◌, List, [], ◌∷◌, ◌++◌, Option, Some, None, refl, ap, sym, subst, ◌∙◌, ◌⊎◌, inl, inr}
use Rattle.std.proofs.lemmas.List.Elements.{filter-append}
use Rattle.std.specs.List.{AllByRecursion}
use Rattle.std.specs.Cmp.{IsTotalOrder, alike_right}
use Rattle.std.specs.Ordering.{is_lt}
use Rattle.std.specs.declared.cmp.Ordering.{Ordering}
use Rattle.key_order.specs.Order.{Below, Same}
use Rattle.key_order.specs.Map.{get, rows_at}
use Rattle.key_order.proofs.Bools.{which}
use Rattle.key_order.proofs.Maps.{get_at}
use Rattle.key_order.proofs.Orders.{low_low}
use Rattle.merkle_tree_theory.specs.Gap.{Gap, everywhere, IsAfter, IsBefore, IsInGap, is_after, is_before, is_in_gap, pairs_within, SameBound, SameGap, part_before, part_behind}

-- two tests at once
pub both : (a b : Bool) → a && b ≡ true → (a ≡ true) × (b ≡ true)
both true b e = (refl, e)
both false b e = absurd (cc)

pub both_true : (a b : Bool) → a ≡ true → b ≡ true → a && b ≡ true
both_true true b e f = f
both_true false b e f = absurd (cc)

not_second : (a b : Bool) → a ≡ true → a && b ≡ false → b ≡ false
not_second true b e f = f
not_second false b e f = absurd (cc)

not_first : (a b : Bool) → b ≡ true → a && b ≡ false → a ≡ false
not_first true b e f = absurd (cc)
not_first false b e f = refl

-- a test that tells more than the second of two
narrower_before : (a b c : Bool) → (b ≡ true → c ≡ true) → a && b ≡ (a && c) && b
narrower_before true true c f = sym (ap (λ x. x && true) (f refl))
narrower_before true false true f = refl
narrower_before true false false f = refl
narrower_before false b c f = refl

-- a test that tells more than the first of two
narrower_after : (a b c : Bool) → (b ≡ true → a ≡ true) → b && c ≡ (a && c) && b
narrower_after true true true f = refl
narrower_after true true false f = refl
narrower_after true false true f = refl
narrower_after true false false f = refl
narrower_after false true c f = absurd (let e = f refl in cc)
narrower_after false false c f = refl

module _ {K : Type 0} (cmp : K → K → Ordering) where
  pub after_from_test : (a : Option K) (k : K) → is_after cmp a k ≡ true → IsAfter cmp a k
  after_from_test None k e = tt
  after_from_test (Some a) k e = e

  pub test_from_after : (a : Option K) (k : K) → IsAfter cmp a k → is_after cmp a k ≡ true
  test_from_after None k i = refl
  test_from_after (Some a) k i = i

  pub before_from_test : (b : Option K) (k : K) → is_before cmp b k ≡ true → IsBefore cmp b k
  before_from_test None k e = tt
  before_from_test (Some b) k e = e

  pub test_from_before : (b : Option K) (k : K) → IsBefore cmp b k → is_before cmp b k ≡ true
  test_from_before None k i = refl
  test_from_before (Some b) k i = i

  pub in_gap_from_test : (k : K) (g : Gap K) → is_in_gap cmp k g ≡ true → IsInGap cmp k g
  in_gap_from_test k g e =
      let (a, b) = both (is_after cmp g.after k) (is_before cmp g.before k) e in (after_from_test g.after k a, before_from_test g.before k b)

  pub test_from_in_gap : (k : K) (g : Gap K) → IsInGap cmp k g → is_in_gap cmp k g ≡ true
  test_from_in_gap k g i = both_true (is_after cmp g.after k) (is_before cmp g.before k) (test_from_after g.after k i.0) (test_from_before g.before k i.1)

  -- a key that is after the first bound, and not in the gap, isn't before the second, and the other way round
  pub not_before : (k : K) (g : Gap K) → is_after cmp g.after k ≡ true → is_in_gap cmp k g ≡ false → is_before cmp g.before k ≡ false
  not_before k g = not_second (is_after cmp g.after k) (is_before cmp g.before k)

  pub not_after : (k : K) (g : Gap K) → is_before cmp g.before k ≡ true → is_in_gap cmp k g ≡ false → is_after cmp g.after k ≡ false
  not_after k g = not_first (is_after cmp g.after k) (is_before cmp g.before k)

module _ {K : Type 0} (cmp : K → K → Ordering) (o : IsTotalOrder cmp) where
  -- what is above a key that is after a bound is after it too
  pub after_low : (a : Option K) (j k : K) → IsAfter cmp a j → Below cmp j k → IsAfter cmp a k
  after_low None j k i l = tt
  after_low (Some a) j k i l = low_low cmp o a j k i l

  pub before_low : (b : Option K) (j k : K) → IsBefore cmp b k → Below cmp j k → IsBefore cmp b j
  before_low None j k i l = tt
  before_low (Some b) j k i l = low_low cmp o j k b l i

  -- equal keys are in the same gaps
  is_after-same : (a : Option K) (k j : K) → Same cmp k j → is_after cmp a k ≡ is_after cmp a j
  is_after-same None k j s = refl
  is_after-same (Some a) k j s = ap is_lt (alike_right o k j a s)

  is_before-same : (b : Option K) (k j : K) → Same cmp k j → is_before cmp b k ≡ is_before cmp b j
  is_before-same None k j s = refl
  is_before-same (Some b) k j s = ap is_lt (o.congr k j b s)

  pub is_in_gap-same : (g : Gap K) (k j : K) → Same cmp k j → is_in_gap cmp k g ≡ is_in_gap cmp j g
  is_in_gap-same g k j s = rw (is_after-same g.after k j s, is_before-same g.before k j s) refl

  pub in_gap-same : (g : Gap K) (k j : K) → Same cmp k j → IsInGap cmp k g → IsInGap cmp j g
  in_gap-same g k j s i = in_gap_from_test cmp j g (sym (is_in_gap-same g k j s) ∙ test_from_in_gap cmp k g i)

  -- gaps with equal bounds have the same keys
  pub is_after-alike : (a b : Option K) → SameBound cmp a b → (k : K) → is_after cmp a k ≡ is_after cmp b k
  is_after-alike None None s k = refl
  is_after-alike None (Some b) s k = absurd s
  is_after-alike (Some a) None s k = absurd s
  is_after-alike (Some a) (Some b) s k = ap is_lt (o.congr a b k s)

  pub is_before-alike : (a b : Option K) → SameBound cmp a b → (k : K) → is_before cmp a k ≡ is_before cmp b k
  is_before-alike None None s k = refl
  is_before-alike None (Some b) s k = absurd s
  is_before-alike (Some a) None s k = absurd s
  is_before-alike (Some a) (Some b) s k = ap is_lt (alike_right o a b k s)

module _ {K X : Type 0} (cmp : K → K → Ordering) (g : Gap K) where
  -- each pair within a gap has its key in it
  pub each_within : (ps : List (K × X)) → AllByRecursion (λ p. IsInGap cmp p.0 g) (pairs_within cmp g ps)
  each_within [] = tt
  each_within (p ∷ ps) = go (which (is_in_gap cmp p.0 g)) (each_within ps)
    where
      go : (is_in_gap cmp p.0 g ≡ false) ⊎ (is_in_gap cmp p.0 g ≡ true) → AllByRecursion (λ q. IsInGap cmp q.0 g) (pairs_within cmp g ps)
          → AllByRecursion (λ q. IsInGap cmp q.0 g) (pairs_within cmp g (p ∷ ps))
      go (inl e) a = rw e a
      go (inr e) a = rw e (in_gap_from_test cmp p.0 g e, a)

  -- of pairs that have no key in the gap none is within it
  pub none_within : (ps : List (K × X)) → AllByRecursion (λ p. IsInGap cmp p.0 g → ⊥) ps → pairs_within cmp g ps ≡ []
  none_within [] a = refl
  none_within (p ∷ ps) a = go (which (is_in_gap cmp p.0 g)) (none_within ps a.1)
    where
      go : (is_in_gap cmp p.0 g ≡ false) ⊎ (is_in_gap cmp p.0 g ≡ true) → pairs_within cmp g ps ≡ [] → pairs_within cmp g (p ∷ ps) ≡ []
      go (inl e) f = rw e f
      go (inr e) f = absurd (a.0 (in_gap_from_test cmp p.0 g e))

  pub within-append : (ps qs : List (K × X)) → pairs_within cmp g (ps ++ qs) ≡ pairs_within cmp g ps ++ pairs_within cmp g qs
  within-append ps qs = filter-append (λ (p : K × X). is_in_gap cmp p.0 g) ps qs

-- all pairs are within the gap that has all keys
pub all_within : {K X : Type 0} (cmp : K → K → Ordering) (ps : List (K × X)) → pairs_within cmp everywhere ps ≡ ps
all_within cmp [] = refl
all_within cmp (p ∷ ps) = ap (λ qs. p ∷ qs) (all_within cmp ps)

-- the pairs that pass two tests, one after the other
rows_at-both : {K X : Type 0} (p q r : K → Bool) → ((k : K) → r k ≡ p k && q k) → (ps : List (K × X)) → rows_at r ps ≡ rows_at q (rows_at p ps)
rows_at-both p q r same [] = refl
rows_at-both {K} {X} p q r same (x ∷ xs) = go (which (p x.0)) (which (q x.0)) (rows_at-both p q r same xs)
  where
    go : (p x.0 ≡ false) ⊎ (p x.0 ≡ true) → (q x.0 ≡ false) ⊎ (q x.0 ≡ true) → rows_at r xs ≡ rows_at q (rows_at p xs) → rows_at r (x ∷ xs) ≡ rows_at q (rows_at p (x ∷ xs))
    go (inl e) f more = rw (same x.0, e) more
    go (inr e) (inl f) more = rw (same x.0, e, f) more
    go (inr e) (inr f) more = rw (same x.0, e, f) (ap (λ ys. x ∷ ys) more)

module _ {K X : Type 0} (cmp : K → K → Ordering) (o : IsTotalOrder cmp) (g : Gap K) (k : K) (in_gap : IsInGap cmp k g) where
  -- a key of a gap parts it: what is within the first part is what is below the key of what is within the gap
  pub within_before : (ps : List (K × X)) → pairs_within cmp (part_before g k) ps ≡ rows_at (is_before cmp (Some k)) (pairs_within cmp g ps)
  within_before = rows_at-both (λ j. is_in_gap cmp j g) (is_before cmp (Some k)) (λ j. is_in_gap cmp j (part_before g k))
      (λ j. narrower_before (is_after cmp g.after j) (is_before cmp (Some k) j) (is_before cmp g.before j) (λ low. test_from_before cmp g.before j (before_low cmp o g.before j k in_gap.1 low)))

  pub within_after : (ps : List (K × X)) → pairs_within cmp (part_behind g k) ps ≡ rows_at (is_after cmp (Some k)) (pairs_within cmp g ps)
  within_after = rows_at-both (λ j. is_in_gap cmp j g) (is_after cmp (Some k)) (λ j. is_in_gap cmp j (part_behind g k))
      (λ j. narrower_after (is_after cmp g.after j) (is_after cmp (Some k) j) (is_before cmp g.before j) (λ low. test_from_after cmp g.after j (after_low cmp o g.after k j in_gap.0 low)))

module _ {K X : Type 0} (cmp : K → K → Ordering) (o : IsTotalOrder cmp) where
  -- what is found within a gap is found, and what is found at a key of the gap is found within it
  pub get_within : (g : Gap K) (m : List (K × X)) (k : K) (d : X) → IsInGap cmp k g → get cmp m k ≡ Some d → get cmp (pairs_within cmp g m) k ≡ Some d
  get_within g m k d i e = get_at cmp o (λ j. is_in_gap cmp j g) (is_in_gap-same cmp o g) m k ∙ rw (test_from_in_gap cmp k g i) e
