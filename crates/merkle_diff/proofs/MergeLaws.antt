-- What every merge of a list has.
use Rattle.std.proofs.Common.{◌≡◌, Bool, true, false, List, [], ◌∷◌, refl, ap, subst, if◌then◌else◌}
use Rattle.std.specs.Cmp.{IsTotalOrder}
use Rattle.std.specs.List.{AllByRecursion}
use Rattle.std.specs.List.Sorted.{IsPermutation}
use Rattle.std.proofs.lemmas.List.Sorted.{IsPermutation-refl, IsPermutation-cons, IsPermutation-trans, IsPermutation-middle, IsPermutation-sym}
use Rattle.std.specs.declared.cmp.Ordering.{Ordering}
use Rattle.key_order.specs.Interval.{Span, IsOrdered, IsIn, IsCovered, IsApart, IsWithin}
use Rattle.key_order.specs.Order.{Upto, Below, AnyByRecursion, upto}
use Rattle.merkle_diff.specs.Merge.{IsMerge, SameSpans}
use Rattle.merkle_diff.specs.Sweep.{sweep_of}
use Rattle.key_order.proofs.Orders.{up_up, low_is_up, not_both}
use Rattle.merkle_diff.proofs.Ascents.{IsAscendingByStart}
use Rattle.merkle_diff.proofs.SweepIsMerge.{within-grown, in-grown, swept-by, swept-ordered, swept-merge}
use Rattle.merkle_diff.proofs.Ranges.{merge-permuted}
use Rattle.merkle_diff.proofs.Unique.{merge-unique, holds-same, in-same, apart-same, ordered-same}
use Rattle.merkle_diff.proofs.Each.{any-tail, each-with, each-permuted, any-permuted}
use Rattle.merkle_diff.proofs.OrderTests.{by_upto, by_above}

module _ {K : Type 0} (cmp : K → K → Ordering) (o : IsTotalOrder cmp) where
  -- ---- sorting

  abbrev ins : Span K → List (Span K) → List (Span K)
  ins s [] = s ∷ []
  ins s (t ∷ ts) = if upto cmp s.first t.first then (s ∷ (t ∷ ts)) else (t ∷ ins s ts)

  abbrev sorted : List (Span K) → List (Span K)
  sorted [] = []
  sorted (s ∷ ss) = ins s (sorted ss)

  ins-moves : (s : Span K) (ts : List (Span K)) → IsPermutation (s ∷ ts) (ins s ts)
  ins-moves s [] = IsPermutation-refl (s ∷ [])
  ins-moves s (t ∷ ts) = go (upto cmp s.first t.first) (ins-moves s ts)
    where
      go : (b : Bool) → IsPermutation (s ∷ ts) (ins s ts) → IsPermutation (s ∷ (t ∷ ts)) (if b then (s ∷ (t ∷ ts)) else (t ∷ ins s ts))
      go true h = IsPermutation-refl (s ∷ (t ∷ ts))
      go false h = IsPermutation-trans (s ∷ (t ∷ ts)) (t ∷ (s ∷ ts)) (t ∷ ins s ts)
          (IsPermutation-sym (t ∷ (s ∷ ts)) (s ∷ (t ∷ ts)) (IsPermutation-middle (t ∷ []) s ts)) (IsPermutation-cons t (s ∷ ts) (ins s ts) h)

  sorted-moves : (ss : List (Span K)) → IsPermutation ss (sorted ss)
  sorted-moves [] = IsPermutation-refl []
  sorted-moves (s ∷ ss) = IsPermutation-trans (s ∷ ss) (s ∷ sorted ss) (ins s (sorted ss)) (IsPermutation-cons s ss (sorted ss) (sorted-moves ss)) (ins-moves s (sorted ss))

  ins-ascends : (s : Span K) (ts : List (Span K)) → IsAscendingByStart cmp ts → IsAscendingByStart cmp (ins s ts)
  ins-ascends s [] a = (tt, tt)
  ins-ascends s (t ∷ ts) a = go (upto cmp s.first t.first) refl (ins-ascends s ts a.1)
    where
      go : (b : Bool) → upto cmp s.first t.first ≡ b → IsAscendingByStart cmp (ins s ts) → IsAscendingByStart cmp (if b then (s ∷ (t ∷ ts)) else (t ∷ ins s ts))
      go true e h = (
        (
          by_upto cmp o s.first t.first e,
          each-with (λ x. Upto cmp t.first x.first) (λ x. Upto cmp s.first x.first) ts (λ x u. up_up cmp o s.first t.first x.first (by_upto cmp o s.first t.first e) u) a.0,
        ),
        a,
      )
      go false e h = (each-permuted (λ x. Upto cmp t.first x.first) (s ∷ ts) (ins s ts) (ins-moves s ts) (low_is_up cmp o t.first s.first (by_above cmp o s.first t.first e), a.0), h)

  sorted-ascends : (ss : List (Span K)) → IsAscendingByStart cmp (sorted ss)
  sorted-ascends [] = tt
  sorted-ascends (s ∷ ss) = ins-ascends s (sorted ss) (sorted-ascends ss)

  -- ---- the sweep

  swept-from : (k : K) (xs : List (Span K)) → IsAscendingByStart cmp xs → IsCovered cmp k (sweep_of cmp xs) → IsCovered cmp k xs
  swept-from k = swept-by cmp o (λ ss out. IsCovered cmp k out → IsCovered cmp k ss) (λ h. h) (λ cur s ss out j a f h. in-grown cmp o cur s j a k ss (f h))
      (λ cur ts out b. any-tail (IsIn cmp k) cur out ts)

  -- each range is within one of the sweep
  swept-holds : (x : Span K) (xs : List (Span K)) → IsAscendingByStart cmp xs → AnyByRecursion (IsWithin cmp x) xs → AnyByRecursion (IsWithin cmp x) (sweep_of cmp xs)
  swept-holds x = swept-by cmp o (λ ss out. AnyByRecursion (IsWithin cmp x) ss → AnyByRecursion (IsWithin cmp x) out) (λ h. h)
      (λ cur s ss out j a f h. f (within-grown cmp o cur s j a x ss h)) (λ cur ts out b. any-tail (IsWithin cmp x) cur ts out)

  swept-apart : (xs : List (Span K)) → IsAscendingByStart cmp xs → IsApart cmp (sweep_of cmp xs)
  swept-apart xs a = (swept-by cmp o (λ ss out. IsApart cmp out × ((e : K) → AllByRecursion (λ t. Below cmp e t.first) ss → AllByRecursion (λ t. Below cmp e t.first) out))
      (tt, (λ e b. tt)) (λ cur s ss out j u f. (f.0, (λ e b. f.1 e (b.0, b.1.1)))) (λ cur ts out b f. ((f.1 cur.last b, f.0), (λ e c. (c.0, f.1 e c.1)))) xs a).0

  -- ---- every merge

  abbrev one_merge : List (Span K) → List (Span K)
  one_merge ss = sweep_of cmp (sorted ss)

  is-merge : (ss : List (Span K)) → AllByRecursion (IsOrdered cmp) ss → IsMerge cmp ss (one_merge ss)
  is-merge ss d = merge-permuted cmp (sorted ss) ss (one_merge ss) (IsPermutation-sym ss (sorted ss) (sorted-moves ss))
      (swept-merge cmp o (sorted ss) (sorted-ascends ss) (each-permuted (IsOrdered cmp) ss (sorted ss) (sorted-moves ss) d))

  -- the merge holds the ranges of the list, and has its keys
  pub merge-holds : (x : Span K) (ss merged : List (Span K)) → AllByRecursion (IsOrdered cmp) ss → IsMerge cmp ss merged → AnyByRecursion (IsWithin cmp x) ss → AnyByRecursion (IsWithin cmp x) merged
  merge-holds x ss merged d m h = holds-same cmp o x (one_merge ss) merged (merge-unique cmp o ss (one_merge ss) merged (is-merge ss d) m)
      (swept-holds x (sorted ss) (sorted-ascends ss) (any-permuted (IsWithin cmp x) ss (sorted ss) (sorted-moves ss) h))

  pub merge-to : (k : K) (ss merged : List (Span K)) → AllByRecursion (IsOrdered cmp) ss → IsMerge cmp ss merged → IsCovered cmp k ss → IsCovered cmp k merged
  merge-to k = merge-holds (record { first = k; last = k })

  pub merge-from : (k : K) (ss merged : List (Span K)) → AllByRecursion (IsOrdered cmp) ss → IsMerge cmp ss merged → IsCovered cmp k merged → IsCovered cmp k ss
  merge-from k ss merged d m h = any-permuted (IsIn cmp k) (sorted ss) ss (IsPermutation-sym ss (sorted ss) (sorted-moves ss))
      (swept-from k (sorted ss) (sorted-ascends ss) (in-same cmp o k merged (one_merge ss) (merge-unique cmp o ss merged (one_merge ss) m (is-merge ss d)) h))

  pub merge-is_apart : (ss merged : List (Span K)) → AllByRecursion (IsOrdered cmp) ss → IsMerge cmp ss merged → IsApart cmp merged
  merge-is_apart ss merged d m = apart-same cmp o (one_merge ss) merged (merge-unique cmp o ss (one_merge ss) merged (is-merge ss d) m) (swept-apart (sorted ss) (sorted-ascends ss))

  pub merge-is_ordered : (ss merged : List (Span K)) → AllByRecursion (IsOrdered cmp) ss → IsMerge cmp ss merged → AllByRecursion (IsOrdered cmp) merged
  merge-is_ordered ss merged d m = ordered-same cmp o (one_merge ss) merged (merge-unique cmp o ss (one_merge ss) merged (is-merge ss d) m)
      (swept-ordered cmp o (sorted ss) (sorted-ascends ss) (each-permuted (IsOrdered cmp) ss (sorted ss) (sorted-moves ss) d))

  -- ---- a list that is apart is its own merge

  swept-alone : (ss : List (Span K)) → IsAscendingByStart cmp ss → IsApart cmp ss → sweep_of cmp ss ≡ ss
  swept-alone = swept-by cmp o (λ ss out. IsApart cmp ss → out ≡ ss) (λ a. refl) (λ cur s ss out j u f a. absurd (not_both cmp o s.first cur.last j a.0.0))
      (λ cur ts out b f a. ap (λ t. cur ∷ t) (f a.1))

  apart-ascends : (ss : List (Span K)) → AllByRecursion (IsOrdered cmp) ss → IsApart cmp ss → IsAscendingByStart cmp ss
  apart-ascends [] d a = tt
  apart-ascends (s ∷ ss) d a = (
    each-with (λ t. Below cmp s.last t.first) (λ t. Upto cmp s.first t.first) ss
        (λ t b. up_up cmp o s.first s.last t.first d.0 (low_is_up cmp o s.last t.first b)) a.0,
    apart-ascends ss d.1 a.1,
  )

  pub merge-alone : (ss : List (Span K)) → AllByRecursion (IsOrdered cmp) ss → IsApart cmp ss → IsMerge cmp ss ss
  merge-alone ss d a = subst (λ m. IsMerge cmp ss m) (swept-alone ss (apart-ascends ss d a) a) (swept-merge cmp o ss (apart-ascends ss d a) d)

  pub merge-of_apart : (ss merged : List (Span K)) → AllByRecursion (IsOrdered cmp) ss → IsApart cmp ss → IsMerge cmp ss merged → SameSpans cmp ss merged
  merge-of_apart ss merged d a m = merge-unique cmp o ss ss merged (merge-alone ss d a) m
