-- Ranges have their bounds in order, and a merge does not see in which order the ranges come.
use Rattle.std.proofs.Common.{map, List, [], ◌∷◌}
use Rattle.std.specs.List.{AllByRecursion}
use Rattle.merkle_diff.specs.declared.diff_range.DiffRange.{DiffRange}
use Rattle.key_order.specs.Interval.{Span, IsOrdered}
use Rattle.merkle_diff.specs.Merge.{IsMerge, AreThose, Opens, Closes}
use Rattle.key_order.specs.Order.{AnyByRecursion, Same, Below, Upto}
use Rattle.merkle_diff.specs.DiffRange.{spans}
use Rattle.std.specs.List.Sorted.{IsPermutation}
use Rattle.std.specs.declared.cmp.Ordering.{Ordering}
use Rattle.std.proofs.lemmas.List.Sorted.{IsPermutation-map, IsPermutation-sym}
use Rattle.merkle_diff.proofs.Each.{any-map, each-with, each-permuted, any-permuted}

pub spans-ordered : {K o e p : _} (rs : List (DiffRange K o e p)) → AllByRecursion (IsOrdered o.cmp) (spans rs)
spans-ordered [] = tt
spans-ordered (r ∷ rs) = (r.ordered, spans-ordered rs)

-- ---- the two forms of "each" and "some"

module _ {K : Type 0} (cmp : K → K → Ordering) where
  those-permuted : (xs ys : List K) (P Q : K → Type 0) (ks : List K) → IsPermutation xs ys → ((k : K) → P k → Q k) → ((k : K) → Q k → P k) → AreThose cmp xs P ks → AreThose cmp ys Q ks
  those-permuted xs ys P Q ks p f b m = record {
    ascends = m.ascends;
    sound = each-with (λ k. AnyByRecursion (λ j. Same cmp k j × P j) xs) (λ k. AnyByRecursion (λ j. Same cmp k j × Q j) ys) ks
        (λ k h. any-permuted (λ j. Same cmp k j × Q j) xs ys p (any-map (λ j. Same cmp k j × P j) (λ j. Same cmp k j × Q j) xs (λ j g. (g.0, f j g.1)) h)) m.sound;
    complete = each-permuted (λ j. Q j → AnyByRecursion (Same cmp j) ks) xs ys p
        (each-with (λ j. P j → AnyByRecursion (Same cmp j) ks) (λ j. Q j → AnyByRecursion (Same cmp j) ks) xs (λ j g q. g (b j q)) m.complete);
  }

  pub merge-permuted : (xs ys merged : List (Span K)) → IsPermutation xs ys → IsMerge cmp xs merged → IsMerge cmp ys merged
  merge-permuted xs ys merged p m = record {
    starts = those-permuted (map (λ s. s.first) xs) (map (λ s. s.first) ys) (Opens cmp xs) (Opens cmp ys) (map (λ s. s.first) merged)
        (IsPermutation-map (λ s. s.first) xs ys p) (λ k. each-permuted (λ s. ¬ (Below cmp s.first k × Upto cmp k s.last)) xs ys p)
        (λ k. each-permuted (λ s. ¬ (Below cmp s.first k × Upto cmp k s.last)) ys xs (IsPermutation-sym xs ys p)) m.starts;
    ends = those-permuted (map (λ s. s.last) xs) (map (λ s. s.last) ys) (Closes cmp xs) (Closes cmp ys) (map (λ s. s.last) merged)
        (IsPermutation-map (λ s. s.last) xs ys p) (λ k. each-permuted (λ s. ¬ (Upto cmp s.first k × Below cmp k s.last)) xs ys p)
        (λ k. each-permuted (λ s. ¬ (Upto cmp s.first k × Below cmp k s.last)) ys xs (IsPermutation-sym xs ys p)) m.ends;
  }
