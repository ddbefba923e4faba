-- The tests of "in a span" and "in one of the spans".
use Rattle.std.proofs.Common.{◌≡◌, Bool, true, List, [], ◌∷◌, refl, ◌⊎◌, inl, inr}
use Rattle.std.proofs.lemmas.Bool.{or_cases, or_left, or_right}
use Rattle.std.specs.Cmp.{IsTotalOrder, alike_right}
use Rattle.std.specs.Ordering.{is_gt}
use Rattle.std.specs.declared.cmp.Ordering.{Ordering}
use Rattle.key_order.specs.Order.{Same}
use Rattle.key_order.specs.Interval.{Span, IsIn, IsCovered, SameSpan, is_in, is_covered}
use Rattle.key_order.specs.Map.{rows_at}
use Rattle.key_order.proofs.Bools.{both_not, and_not}

module _ {K : Type 0} (cmp : K → K → Ordering) (o : IsTotalOrder cmp) where
  pub in_from_test : (k : K) (s : Span K) → is_in cmp k s ≡ true → IsIn cmp k s
  in_from_test k s h = both_not (is_gt (cmp s.first k)) (is_gt (cmp k s.last)) h

  pub test_from_in : (k : K) (s : Span K) → IsIn cmp k s → is_in cmp k s ≡ true
  test_from_in k s h = and_not (is_gt (cmp s.first k)) (is_gt (cmp k s.last)) h.0 h.1

  pub is_in-same : (s : Span K) (k j : K) → Same cmp k j → is_in cmp k s ≡ is_in cmp j s
  is_in-same s k j h = rw (alike_right o k j s.first h, o.congr k j s.last h) refl

  -- spans with equal bounds have the same keys
  pub is_in-alike : (s t : Span K) → SameSpan cmp s t → (k : K) → is_in cmp k s ≡ is_in cmp k t
  is_in-alike s t h k = rw (o.congr s.first t.first k h.0, alike_right o s.last t.last k h.1) refl

  pub is_covered-same : (ss : List (Span K)) (k j : K) → Same cmp k j → is_covered cmp k ss ≡ is_covered cmp j ss
  is_covered-same [] k j h = refl
  is_covered-same (s ∷ ss) k j h = rw (alike_right o k j s.first h, o.congr k j s.last h, is_covered-same ss k j h) refl

  pub covered_from_test : (ss : List (Span K)) (k : K) → is_covered cmp k ss ≡ true → IsCovered cmp k ss
  covered_from_test [] k h = cc
  covered_from_test (s ∷ ss) k h = go (covered_from_test ss k) (or_cases (is_in cmp k s) (is_covered cmp k ss) h)
    where
      go : (is_covered cmp k ss ≡ true → IsCovered cmp k ss) → (is_in cmp k s ≡ true) ⊎ (is_covered cmp k ss ≡ true) → IsCovered cmp k (s ∷ ss)
      go f (inl e) = inl (in_from_test k s e)
      go f (inr e) = inr (f e)

  pub test_from_covered : (ss : List (Span K)) (k : K) → IsCovered cmp k ss → is_covered cmp k ss ≡ true
  test_from_covered [] k h = absurd h
  test_from_covered (s ∷ ss) k (inl h) = or_left (is_in cmp k s) (is_covered cmp k ss) (test_from_in k s h)
  test_from_covered (s ∷ ss) k (inr h) = or_right (is_in cmp k s) (is_covered cmp k ss) (test_from_covered ss k h)

-- tests that pass the same keys pass the same rows
pub rows_at-alike : {K X : Type 0} (p q : K → Bool) → ((k : K) → p k ≡ q k) → (m : List (K × X)) → rows_at p m ≡ rows_at q m
rows_at-alike p q h m = λ i. rows_at (λ k. h k i) m
