-- What a map has in a gap, parted by a key of it.
use Rattle.std.proofs.Common.{◌≡◌, Bool, true, false, List, [], ◌∷◌, ◌++◌, Some, refl, ap, subst, ◌∙◌, append-nil, ◌⊎◌, inl, inr}
use Rattle.std.proofs.lemmas.List.Elements.{filter-append}
use Rattle.std.specs.List.{AllByRecursion}
use Rattle.std.specs.Cmp.{IsTotalOrder}
use Rattle.std.specs.declared.cmp.Ordering.{Ordering}
use Rattle.key_order.specs.Order.{Below}
use Rattle.key_order.specs.Map.{IsMap, rows_at}
use Rattle.key_order.proofs.Bools.{which}
use Rattle.key_order.proofs.Orders.{low_is_up, not_both, not_low_self}
use Rattle.key_order.proofs.ListParts.{each-at, map-before, map-rest}
use Rattle.merkle_tree_theory.specs.Gap.{Gap, IsInGap, everywhere, is_after, is_before, is_in_gap, pairs_within, part_before, part_behind}
use Rattle.store_tree.specs.Cells.{bytes_order, KeyDigests}
use Rattle.merkle_tree_theory.proofs.InGaps.{within_before, within_after, each_within}

all_pass : {K X : Type 0} (test : K → Bool) (ps : List (K × X)) → AllByRecursion (λ p. test p.0 ≡ true) ps → rows_at test ps ≡ ps
all_pass test [] a = refl
all_pass test (p ∷ ps) a = rw a.0 (ap (λ qs. p ∷ qs) (all_pass test ps a.1))

none_pass : {K X : Type 0} (test : K → Bool) (ps : List (K × X)) → AllByRecursion (λ p. test p.0 ≡ false) ps → rows_at test ps ≡ []
none_pass test [] a = refl
none_pass test (p ∷ ps) a = rw a.0 (none_pass test ps a.1)

not_less : (b : Bool) → (b ≡ true → ⊥) → b ≡ false
not_less true f = absurd (f refl)
not_less false f = refl

module _ {K D : Type 0} (cmp : K → K → Ordering) (o : IsTotalOrder cmp) where
  -- what passes a test is a map where all is
  all_rows : (P : K × D → Type 0) (test : K → Bool) (ps : List (K × D)) → AllByRecursion P ps → AllByRecursion P (rows_at test ps)
  all_rows P test [] a = tt
  all_rows P test (p ∷ ps) a = by (which (test p.0)) (all_rows P test ps a.1)
    where
      by : (test p.0 ≡ false) ⊎ (test p.0 ≡ true) → AllByRecursion P (rows_at test ps) → AllByRecursion P (rows_at test (p ∷ ps))
      by (inl e) more = rw e more
      by (inr e) more = rw e (a.0, more)

  pub map_rows : (test : K → Bool) (ps : List (K × D)) → IsMap cmp ps → IsMap cmp (rows_at test ps)
  map_rows test [] a = tt
  map_rows test (p ∷ ps) a = by (which (test p.0)) (map_rows test ps a.1)
    where
      by : (test p.0 ≡ false) ⊎ (test p.0 ≡ true) → IsMap cmp (rows_at test ps) → IsMap cmp (rows_at test (p ∷ ps))
      by (inl e) more = rw e more
      by (inr e) more = rw e (all_rows (λ s. Below cmp p.0 s.0) test ps a.0, more)

  below_not : (k : K) (ps : List (K × D)) → AllByRecursion (λ p. Below cmp k p.0) ps → AllByRecursion (λ p. is_before cmp (Some k) p.0 ≡ false) ps
  below_not k [] a = tt
  below_not k (p ∷ ps) a = (not_less (is_before cmp (Some k) p.0) (λ low. not_both cmp o k p.0 (low_is_up cmp o k p.0 a.0) low), below_not k ps a.1)

  above_not : (k : K) (ps : List (K × D)) → AllByRecursion (λ p. Below cmp p.0 k) ps → AllByRecursion (λ p. is_after cmp (Some k) p.0 ≡ false) ps
  above_not k [] a = tt
  above_not k (p ∷ ps) a = (not_less (is_after cmp (Some k) p.0) (λ low. not_both cmp o p.0 k (low_is_up cmp o p.0 k a.0) low), above_not k ps a.1)

  -- what a map has in a gap is parted by a key of it
  module _ (g : Gap K) (m : List (K × D)) (up : IsMap cmp m) (xs : List (K × D)) (p : K × D) (ys : List (K × D)) (is : pairs_within cmp g m ≡ xs ++ p ∷ ys) where
    within_up : IsMap cmp (xs ++ p ∷ ys)
    within_up = subst (IsMap cmp) is (map_rows (λ k. is_in_gap cmp k g) m up)

    pub key_in : IsInGap cmp p.0 g
    key_in = each-at (λ (q : K × D). IsInGap cmp q.0 g) xs p ys (subst (AllByRecursion (λ (q : K × D). IsInGap cmp q.0 g)) is (each_within cmp g m))

    pub front_within : pairs_within cmp (part_before g p.0) m ≡ xs
    front_within =
        within_before cmp o g p.0 key_in m ∙ ap (rows_at (is_before cmp (Some p.0))) is ∙ filter-append (λ (q : K × D). is_before cmp (Some p.0) q.0) xs (p ∷ ys)
        ∙ ap (λ w. w ++ rows_at (is_before cmp (Some p.0)) (p ∷ ys)) (all_pass (is_before cmp (Some p.0)) xs (map-before cmp xs p ys within_up))
        ∙ ap (λ w. xs ++ w) (none_pass (is_before cmp (Some p.0)) (p ∷ ys) (not_less (is_before cmp (Some p.0) p.0) (not_low_self cmp o p.0), below_not p.0 ys (map-rest cmp xs (p ∷ ys) within_up).0))
        ∙ append-nil xs

    pub back_within : pairs_within cmp (part_behind g p.0) m ≡ ys
    back_within =
        let rest : IsMap cmp (p ∷ ys) = map-rest cmp xs (p ∷ ys) within_up in
        within_after cmp o g p.0 key_in m ∙ ap (rows_at (is_after cmp (Some p.0))) is ∙ filter-append (λ (q : K × D). is_after cmp (Some p.0) q.0) xs (p ∷ ys)
        ∙ ap (λ w. w ++ rows_at (is_after cmp (Some p.0)) (p ∷ ys)) (none_pass (is_after cmp (Some p.0)) xs (above_not p.0 xs (map-before cmp xs p ys within_up)))
        ∙ rw (not_less (is_after cmp (Some p.0) p.0) (not_low_self cmp o p.0)) (all_pass (is_after cmp (Some p.0)) ys rest.0)

-- the gap that has all keys has all pairs
pub whole : (ps : KeyDigests) → pairs_within bytes_order everywhere ps ≡ ps
whole [] = refl
whole (p ∷ ps) = ap (λ qs. p ∷ qs) (whole ps)
