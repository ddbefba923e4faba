-- The rows in a span are those from the first that isn't below its first key on, up to the first above its last key.
use Rattle.std.proofs.Common.{◌≡◌, ℕ, Bool, true, false, cond, List, [], ◌∷◌, ◌++◌, take, drop, refl, ap, ap₂, sym, subst, ◌∙◌}
use Rattle.std.proofs.lemmas.List.{take-append-drop, append-nil}
use Rattle.std.proofs.lemmas.List.Elements.{filter-append}
use Rattle.std.specs.List.{AllByRecursion}
use Rattle.std.specs.Cmp.{IsTotalOrder}
use Rattle.std.specs.declared.cmp.Ordering.{Ordering}
use Rattle.key_order.specs.Interval.{Span, is_in}
use Rattle.key_order.specs.Map.{SameMap, rows_at}
use Rattle.key_order.specs.Order.{Upto, Below, below}
use Rattle.key_order.proofs.ListParts.{each-before}
use Rattle.key_order.proofs.Orders.{not_both, turned}
use Rattle.key_order.proofs.Spans.{test_from_in}
use Rattle.merkle_diff.proofs.Each.{each-both, each-with}
use Rattle.merkle_search_tree.specs.Loading.{digests}
use Rattle.merkle_tree_theory.proofs.RangesOfMap.{fails}
use Rattle.merkle_wire.proofs.InGaps.{all_pass, none_pass}

module _ {K : Type 0} (cmp : K → K → Ordering) (o : IsTotalOrder cmp) where
  -- a key that isn't below another is at least that
  pub not_below : (k j : K) → below cmp k j ≡ false → Upto cmp j k
  not_below k j e = sym (turned cmp o j k) ∙ e

  pub between_bounds : {X : Type 0} (s : Span K) (rows behind : List (K × X)) (n i : ℕ) → behind ≡ drop n rows → AllByRecursion (λ r. Below cmp r.0 s.first) (take n rows)
      → AllByRecursion (λ r. Upto cmp s.first r.0) (drop n rows)
      → AllByRecursion (λ r. Upto cmp r.0 s.last) (take i behind) → AllByRecursion (λ r. Below cmp s.last r.0) (drop i behind) → take i behind ≡ rows_at (λ k. is_in cmp k s) rows
  between_bounds {X} s rows behind n i e low from upto high =
      sym (ap within (sym (take-append-drop n rows)) ∙ filter-append Passes (take n rows) (drop n rows)
      ∙ ap₂ (λ us vs. us ++ vs) none_before (ap within (sym e) ∙ ap within (sym parts) ∙ filter-append Passes (take i behind) (drop i behind)
      ∙ ap₂ (λ us vs. us ++ vs) all_inside none_behind ∙ append-nil (take i behind)))
    where
      Passes : K × X → Bool
      Passes r = is_in cmp r.0 s

      within : List (K × X) → List (K × X)
      within = rows_at (λ k. is_in cmp k s)

      parts : take i behind ++ drop i behind ≡ behind
      parts = take-append-drop i behind

      none_before : rows_at (λ k. is_in cmp k s) (take n rows) ≡ []
      none_before = none_pass (λ k. is_in cmp k s) (take n rows)
          (each-with (λ r. Below cmp r.0 s.first) (λ r. is_in cmp r.0 s ≡ false) (take n rows) (λ r b. fails cmp o r.0 s (λ h. not_both cmp o s.first r.0 h.0 b)) low)

      none_behind : rows_at (λ k. is_in cmp k s) (drop i behind) ≡ []
      none_behind = none_pass (λ k. is_in cmp k s) (drop i behind)
          (each-with (λ r. Below cmp s.last r.0) (λ r. is_in cmp r.0 s ≡ false) (drop i behind) (λ r b. fails cmp o r.0 s (λ h. not_both cmp o r.0 s.last h.1 b)) high)

      from_inside : AllByRecursion (λ r. Upto cmp s.first r.0) (take i behind)
      from_inside = each-before (λ r. Upto cmp s.first r.0) (take i behind) (drop i behind) (subst (AllByRecursion (λ r. Upto cmp s.first r.0)) (sym e ∙ sym parts) from)

      all_inside : rows_at (λ k. is_in cmp k s) (take i behind) ≡ take i behind
      all_inside = all_pass (λ k. is_in cmp k s) (take i behind)
          (each-both (λ r. Upto cmp s.first r.0) (λ r. Upto cmp r.0 s.last) (λ r. is_in cmp r.0 s ≡ true) (take i behind) (λ r f u. test_from_in cmp o r.0 s (f, u)) from_inside upto)

  -- the digests of the rows in a span are the pairs of the map of digests in it
  pub digests_within : {V : Type 0} (f : V → List ℕ) (test : K → Bool) (rows : List (K × V)) → digests f (rows_at test rows) ≡ rows_at test (digests f rows)
  digests_within f test [] = refl
  digests_within f test (r ∷ rows) = by (test r.0) (digests_within f test rows)
    where
      by : (b : Bool) → digests f (rows_at test rows) ≡ rows_at test (digests f rows)
          → digests f (cond b (r ∷ rows_at test rows) (rows_at test rows)) ≡ cond b ((r.0, f r.1) ∷ rows_at test (digests f rows)) (rows_at test (digests f rows))
      by true e = ap (λ rs. (r.0, f r.1) ∷ rs) e
      by false e = e

  -- so rows within two spans are alike where the pairs of the maps of digests are equal in them
  pub across : {xs us ys vs : List (K × List ℕ)} → xs ≡ us → ys ≡ vs → SameMap cmp (λ d c. d ≡ c) xs ys → SameMap cmp (λ d c. d ≡ c) us vs
  across {us = us} {ys = ys} e f s = subst (SameMap cmp (λ d c. d ≡ c) us) f (subst (λ zs. SameMap cmp (λ d c. d ≡ c) zs ys) e s)
