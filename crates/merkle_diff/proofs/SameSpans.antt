-- Lists of spans with equal bounds: they have the same keys, and so the same rows are in them.
use Rattle.std.proofs.Common.{◌≡◌, List, [], ◌∷◌, ◌||◌, map, refl}
use Rattle.std.specs.Cmp.{IsTotalOrder, tied_itself}
use Rattle.std.specs.declared.cmp.Ordering.{Ordering}
use Rattle.key_order.specs.Interval.{Span, is_covered}
use Rattle.key_order.specs.Map.{rows_in}
use Rattle.key_order.proofs.SameKeys.{SameKeys}
use Rattle.key_order.proofs.Spans.{is_in-alike, rows_at-alike}
use Rattle.merkle_diff.specs.Merge.{SameSpans}

module _ {K : Type 0} (cmp : K → K → Ordering) (o : IsTotalOrder cmp) where
  pub same_spans-own : (ss : List (Span K)) → SameSpans cmp ss ss
  same_spans-own [] = tt
  same_spans-own (s ∷ ss) = ((tied_itself o s.first, tied_itself o s.last), same_spans-own ss)

  pub is_covered-alike : (ss ts : List (Span K)) → SameSpans cmp ss ts → (k : K) → is_covered cmp k ss ≡ is_covered cmp k ts
  is_covered-alike [] [] h k = refl
  is_covered-alike [] (t ∷ ts) h k = absurd h
  is_covered-alike (s ∷ ss) [] h k = absurd h
  is_covered-alike (s ∷ ss) (t ∷ ts) h k = λ i. is_in-alike cmp o s t h.0 k i || is_covered-alike ss ts h.1 k i

  -- the same rows are in them
  pub rows_in-alike : {X : Type 0} (ss ts : List (Span K)) → SameSpans cmp ss ts → (m : List (K × X)) → rows_in cmp ss m ≡ rows_in cmp ts m
  rows_in-alike ss ts h = rows_at-alike (λ k. is_covered cmp k ss) (λ k. is_covered cmp k ts) (is_covered-alike ss ts h)

module _ {K : Type 0} (cmp : K → K → Ordering) where
  pub same-firsts : (ss ts : List (Span K)) → SameSpans cmp ss ts → SameKeys cmp (map (λ s. s.first) ss) (map (λ s. s.first) ts)
  same-firsts [] [] h = tt
  same-firsts [] (t ∷ ts) h = absurd h
  same-firsts (s ∷ ss) [] h = absurd h
  same-firsts (s ∷ ss) (t ∷ ts) h = (h.0.0, same-firsts ss ts h.1)

  pub same-lasts : (ss ts : List (Span K)) → SameSpans cmp ss ts → SameKeys cmp (map (λ s. s.last) ss) (map (λ s. s.last) ts)
  same-lasts [] [] h = tt
  same-lasts [] (t ∷ ts) h = absurd h
  same-lasts (s ∷ ss) [] h = absurd h
  same-lasts (s ∷ ss) (t ∷ ts) h = (h.0.1, same-lasts ss ts h.1)
