-- A list has one merge, up to equality of keys.
use Rattle.std.proofs.Common.{List, [], ◌∷◌, map, inl, inr}
use Rattle.std.specs.Cmp.{IsTotalOrder}
use Rattle.std.specs.List.{AllByRecursion}
use Rattle.std.specs.declared.cmp.Ordering.{Ordering}
use Rattle.key_order.specs.Interval.{Span, IsOrdered, IsCovered, IsWithin, IsApart, SameSpan}
use Rattle.key_order.specs.Order.{Below, Same, IsAscending, AnyByRecursion}
use Rattle.key_order.proofs.SameKeys.{SameKeys}
use Rattle.merkle_diff.specs.Merge.{AreThose, IsMerge, Opens, Closes, SameSpans}
use Rattle.key_order.proofs.Orders.{same_up, same_down, up_up, low_up, up_low, not_both, low_is_up}
use Rattle.merkle_diff.proofs.Each.{any-map, each-with, each-both, any-get}
use Rattle.merkle_diff.proofs.OrderTests.{same_trans, same_back}

module _ {K : Type 0} (cmp : K → K → Ordering) (o : IsTotalOrder cmp) where
  abbrev pub AllIn : List K → List K → Type 0
  AllIn ks js = AllByRecursion (λ k. AnyByRecursion (Same cmp k) js) ks

  below-some : (j k : K) (js : List K) → AllByRecursion (λ x. Below cmp j x) js → AnyByRecursion (Same cmp k) js → Below cmp j k
  below-some j k js a h = any-get (λ x. Below cmp j x) (Same cmp k) (Below cmp j k) js (λ x b e. low_up cmp o j x k b (same_down cmp o k x e)) a h

  first-same : (k j : K) (ks js : List K) → AllByRecursion (λ x. Below cmp k x) ks → AllByRecursion (λ x. Below cmp j x) js
      → AnyByRecursion (Same cmp k) (j ∷ js) → AnyByRecursion (Same cmp j) (k ∷ ks) → Same cmp k j
  first-same k j ks js a b (inl e) h = e
  first-same k j ks js a b (inr m) (inl e) = same_back cmp o j k e
  first-same k j ks js a b (inr m) (inr n) = absurd (not_both cmp o k j (low_is_up cmp o k j (below-some k j ks a n)) (below-some j k js b m))

  tails : (k j : K) (ks js : List K) → Same cmp k j → AllByRecursion (λ x. Below cmp k x) ks → AllIn ks (j ∷ js) → AllIn ks js
  tails k j ks js e a f = each-both (λ x. Below cmp k x) (λ x. AnyByRecursion (Same cmp x) (j ∷ js)) (λ x. AnyByRecursion (Same cmp x) js) ks one a f
    where
      one : (x : K) → Below cmp k x → AnyByRecursion (Same cmp x) (j ∷ js) → AnyByRecursion (Same cmp x) js
      one x b (inl h) = absurd (not_both cmp o x k (up_up cmp o x j k (same_up cmp o x j h) (same_down cmp o k j e)) b)
      one x b (inr h) = h

  unique : (ks js : List K) → IsAscending cmp ks → IsAscending cmp js → AllIn ks js → AllIn js ks → SameKeys cmp ks js
  unique [] [] a b f g = tt
  unique [] (j ∷ js) a b f g = absurd g.0
  unique (k ∷ ks) [] a b f g = absurd f.0
  unique (k ∷ ks) (j ∷ js) a b f g =
      let e = first-same k j ks js a.0 b.0 f.0 g.0 in
      (e, unique ks js a.1 b.1 (tails k j ks js e a.0 f.1) (tails j k js ks (same_back cmp o k j e) b.0 g.1))

  those-in : (from : List K) (P : K → Type 0) (ks js : List K) → AreThose cmp from P ks → AreThose cmp from P js → AllIn ks js
  those-in from P ks js m n =
      each-with (λ k. AnyByRecursion (λ j. Same cmp k j × P j) from) (λ k. AnyByRecursion (Same cmp k) js) ks
      (λ k h. any-get (λ j. P j → AnyByRecursion (Same cmp j) js) (λ j. Same cmp k j × P j) (AnyByRecursion (Same cmp k) js) from
      (λ j c e. any-map (Same cmp j) (Same cmp k) js (λ x q. same_trans cmp o k j x e.0 q) (c e.1)) n.complete h) m.sound

  those-unique : (from : List K) (P : K → Type 0) (ks js : List K) → AreThose cmp from P ks → AreThose cmp from P js → SameKeys cmp ks js
  those-unique from P ks js m n = unique ks js m.ascends n.ascends (those-in from P ks js m n) (those-in from P js ks n m)

  zipped : (xs ys : List (Span K)) → SameKeys cmp (map (λ s. s.first) xs) (map (λ s. s.first) ys) → SameKeys cmp (map (λ s. s.last) xs) (map (λ s. s.last) ys) → SameSpans cmp xs ys
  zipped [] [] f g = tt
  zipped [] (y ∷ ys) f g = absurd f
  zipped (x ∷ xs) [] f g = absurd f
  zipped (x ∷ xs) (y ∷ ys) f g = ((f.0, g.0), zipped xs ys f.1 g.1)

  pub merge-unique : (ss xs ys : List (Span K)) → IsMerge cmp ss xs → IsMerge cmp ss ys → SameSpans cmp xs ys
  merge-unique ss xs ys m n =
      zipped xs ys (those-unique (map (λ s. s.first) ss) (Opens cmp ss) (map (λ s. s.first) xs) (map (λ s. s.first) ys) m.starts n.starts)
      (those-unique (map (λ s. s.last) ss) (Closes cmp ss) (map (λ s. s.last) xs) (map (λ s. s.last) ys) m.ends n.ends)

  pub same-back : (xs ys : List (Span K)) → SameSpans cmp xs ys → SameSpans cmp ys xs
  same-back [] [] h = tt
  same-back [] (y ∷ ys) h = absurd h
  same-back (x ∷ xs) [] h = absurd h
  same-back (x ∷ xs) (y ∷ ys) h = ((same_back cmp o x.first y.first h.0.0, same_back cmp o x.last y.last h.0.1), same-back xs ys h.1)

  -- what equal ranges share holds of each
  pub each-same : (P Q : Span K → Type 0) (xs ys : List (Span K)) → ((s t : Span K) → SameSpan cmp s t → P s → Q t) → SameSpans cmp xs ys → AllByRecursion P xs → AllByRecursion Q ys
  each-same P Q [] [] f h i = tt
  each-same P Q [] (y ∷ ys) f h i = absurd h
  each-same P Q (x ∷ xs) [] f h i = absurd h
  each-same P Q (x ∷ xs) (y ∷ ys) f h i = (f x y h.0 i.0, each-same P Q xs ys f h.1 i.1)

  pub holds-same : (x : Span K) (xs ys : List (Span K)) → SameSpans cmp xs ys → AnyByRecursion (IsWithin cmp x) xs → AnyByRecursion (IsWithin cmp x) ys
  holds-same x [] ys h i = absurd i
  holds-same x (s ∷ xs) [] h i = absurd h
  holds-same x (s ∷ xs) (t ∷ ys) h (inl i) =
      inl (up_up cmp o t.first s.first x.first (same_down cmp o s.first t.first h.0.0) i.0, up_up cmp o x.last s.last t.last i.1 (same_up cmp o s.last t.last h.0.1))
  holds-same x (s ∷ xs) (t ∷ ys) h (inr i) = inr (holds-same x xs ys h.1 i)

  pub in-same : (k : K) (xs ys : List (Span K)) → SameSpans cmp xs ys → IsCovered cmp k xs → IsCovered cmp k ys
  in-same k = holds-same (record { first = k; last = k })

  pub apart-same : (xs ys : List (Span K)) → SameSpans cmp xs ys → IsApart cmp xs → IsApart cmp ys
  apart-same [] [] h i = tt
  apart-same [] (y ∷ ys) h i = absurd h
  apart-same (x ∷ xs) [] h i = absurd h
  apart-same (x ∷ xs) (y ∷ ys) h i = (
    each-same (λ t. Below cmp x.last t.first) (λ t. Below cmp y.last t.first) xs ys
        (λ s t e b. up_low cmp o y.last x.last t.first (same_down cmp o x.last y.last h.0.1) (low_up cmp o x.last s.first t.first b (same_up cmp o s.first t.first e.0))) h.1 i.0,
    apart-same xs ys h.1 i.1,
  )

  pub ordered-same : (xs ys : List (Span K)) → SameSpans cmp xs ys → AllByRecursion (IsOrdered cmp) xs → AllByRecursion (IsOrdered cmp) ys
  ordered-same xs ys = each-same (IsOrdered cmp) (IsOrdered cmp) xs ys
      (λ s t e d. up_up cmp o t.first s.first t.last (same_down cmp o s.first t.first e.0) (up_up cmp o s.first s.last t.last d (same_up cmp o s.last t.last e.1)))
