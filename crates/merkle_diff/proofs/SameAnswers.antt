-- The laws of an answer hold of an answer whose bounds are equal, place by place.
use Rattle.std.proofs.Common.{◌≡◌, List, [], ◌∷◌, ◌++◌, refl, ◌⊎◌, inl, inr}
use Rattle.std.specs.Cmp.{IsTotalOrder}
use Rattle.std.specs.declared.cmp.Ordering.{Ordering}
use Rattle.key_order.specs.Interval.{Span, SameSpan, IsCovered}
use Rattle.merkle_diff.specs.Difference.{IsDifference, SparesAgreed, IsByFirsts, IsByTable, IsInFirst, IsBoundOfEntry}
use Rattle.merkle_diff.specs.Entry.{Entry, span_of}
use Rattle.merkle_diff.specs.Merge.{SameSpans}
use Rattle.key_order.proofs.Orders.{up_up, same_up, same_down}
use Rattle.merkle_diff.proofs.IntervalLaws.{bound-of_same, spans-trans}
use Rattle.merkle_diff.proofs.OrderTests.{same_back}
use Rattle.merkle_diff.proofs.Unique.{same-back, each-same, in-same, apart-same, ordered-same}

module _ {K : Type 0} (cmp : K → K → Ordering) (o : IsTotalOrder cmp) where
  pub none-same : (xs ys : List (Span K)) → SameSpans cmp xs ys → xs ≡ [] → ys ≡ []
  none-same [] [] h e = refl
  none-same [] (y ∷ ys) h e = absurd h
  none-same (x ∷ xs) ys h e = cc

module _ {K D : Type 0} (cmp : K → K → Ordering) (o : IsTotalOrder cmp) where
  inside-same : (ps : List (Entry K D)) (s t : Span K) → SameSpan cmp s t → IsInFirst cmp ps s → IsInFirst cmp ps t
  inside-same [] s t e h = h
  inside-same (b ∷ ps) s t e h = (up_up cmp o b.first s.first t.first h.0 (same_up cmp o s.first t.first e.0), up_up cmp o t.last s.last b.last (same_down cmp o s.last t.last e.1) h.1)

  bounds-same : (es : List (Entry K D)) (s t : Span K) → SameSpan cmp s t → IsBoundOfEntry cmp es s.first × IsBoundOfEntry cmp es s.last → IsBoundOfEntry cmp es t.first × IsBoundOfEntry cmp es t.last
  bounds-same es s t e h = (bound-of_same cmp o es t.first s.first (same_back cmp o s.first t.first e.0) h.0, bound-of_same cmp o es t.last s.last (same_back cmp o s.last t.last e.1) h.1)

  firsts-same : (a b : Entry K D) (ls ps : List (Entry K D)) (xs ys : List (Span K)) → SameSpans cmp xs ys → IsByFirsts cmp a b ls ps xs → IsByFirsts cmp a b ls ps ys
  firsts-same a b ls ps xs ys e t = record {
    before = λ h k. spans-trans cmp o ys xs _ (same-back cmp o xs ys e) (t.before h k);
    behind = λ h k. none-same cmp o xs ys e (t.behind h k);
    within = λ h n. none-same cmp o xs ys e (t.within h n);
    holds = λ h k i. or k _ (t.holds h k i);
  }
    where
      or : (k : K) (A : Type 0) → IsCovered cmp k xs ⊎ A → IsCovered cmp k ys ⊎ A
      or k A (inl i) = inl (in-same cmp o k xs ys e i)
      or k A (inr i) = inr i

  table-same : (ls ps : List (Entry K D)) (xs ys : List (Span K)) → SameSpans cmp xs ys → IsByTable cmp ls ps xs → IsByTable cmp ls ps ys
  table-same ls [] xs ys e t = none-same cmp o xs ys e t
  table-same [] (b ∷ ps) xs ys e t = spans-trans cmp o ys xs (span_of b ∷ []) (same-back cmp o xs ys e) t
  table-same (a ∷ ls) (b ∷ ps) xs ys e t = firsts-same a b (a ∷ ls) (b ∷ ps) xs ys e t

  pub difference-same : (ls ps : List (Entry K D)) (xs ys : List (Span K)) → SameSpans cmp xs ys → IsDifference cmp ls ps xs → IsDifference cmp ls ps ys
  difference-same ls ps xs ys e d = record {
    apart = apart-same cmp o xs ys e d.apart;
    ordered = ordered-same cmp o xs ys e d.ordered;
    inside = each-same cmp o (IsInFirst cmp ps) (IsInFirst cmp ps) xs ys (inside-same ps) e d.inside;
    bounds = each-same cmp o (λ s. IsBoundOfEntry cmp (ls ++ ps) s.first × IsBoundOfEntry cmp (ls ++ ps) s.last)
        (λ s. IsBoundOfEntry cmp (ls ++ ps) s.first × IsBoundOfEntry cmp (ls ++ ps) s.last) xs ys (bounds-same (ls ++ ps)) e d.bounds;
    table = table-same ls ps xs ys e d.table;
  }

  pub spares-same : (ls ps : List (Entry K D)) (xs ys : List (Span K)) → SameSpans cmp xs ys → SparesAgreed cmp ls ps xs → SparesAgreed cmp ls ps ys
  spares-same ls ps xs ys e d = record {
    spared = λ k h i. d.spared k h (in-same cmp o k ys xs (same-back cmp o xs ys e) i);
    equal = λ h. none-same cmp o xs ys e (d.equal h);
  }
