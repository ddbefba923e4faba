-- The pages right below one that fills a gap fill the parts of the gap into which its nodes part it.
use Rattle.std.proofs.Common.{◌≡◌, ℕ, false, true, Some, List, [], ◌∷◌, ◌++◌, refl, ap, subst, ◌∙◌, ◌⊎◌, inl, inr}
use Rattle.std.specs.Cmp.{IsTotalOrder}
use Rattle.std.specs.List.{AllByRecursion}
use Rattle.std.specs.declared.cmp.Ordering.{Ordering}
use Rattle.key_order.specs.Map.{IsMap, rows_at}
use Rattle.key_order.specs.Order.{Below, below}
use Rattle.key_order.proofs.Bools.{which}
use Rattle.key_order.proofs.ListParts.{each-at, map-before}
use Rattle.key_order.proofs.Orders.{low_is_up, not_both, not_low_self}
use Rattle.merkle_tree_theory.specs.Canonical.{HasNode, IsCanonical, IsCanonicalRoot}
use Rattle.merkle_tree_theory.specs.Gap.{Gap, IsInGap, is_after, is_before, pairs_within, part_before, part_behind}
use Rattle.merkle_tree_theory.specs.Page.{pairs}
use Rattle.merkle_tree_theory.specs.Ranges.{IsPageIn}
use Rattle.merkle_tree_theory.specs.Tree.{Tree, page, high, node, nothing, below as lower}
use Rattle.merkle_tree_theory.proofs.InGaps.{each_within, within_after, within_before}
use Rattle.merkle_tree_theory.proofs.Inside.{canonical_down}
use Rattle.merkle_tree_theory.proofs.PagesIn.{inside}
use Rattle.merkle_wire.proofs.InGaps.{all_pass}

-- a page with a node, of a canonical tree, is canonical
pub page_canonical : {K D : Type 0} (lev : K → ℕ) (s t : Tree K D) → IsCanonicalRoot lev t → IsPageIn s t → HasNode s → IsCanonical lev s
page_canonical lev s (page l c (high nothing)) g (inl e) n = absurd (subst (λ (u : Tree _ _). HasNode u) e n)
page_canonical lev s (page l c (high nothing)) g (inr i) n = absurd i
page_canonical lev s (page l c (high (lower t))) g i n = absurd g
page_canonical lev s (page l c (node h k d r)) g i n = (inside (canonical_down lev) s (page l c (node h k d r)) (tt, g) i).1

module _ {K : Type 0} (cmp : K → K → Ordering) (o : IsTotalOrder cmp) where
  not_low : (j k : K) → (Below cmp j k → ⊥) → below cmp j k ≡ false
  not_low j k f = go (which (below cmp j k))
    where
      go : (below cmp j k ≡ false) ⊎ (below cmp j k ≡ true) → below cmp j k ≡ false
      go (inl n) = n
      go (inr n) = absurd (f n)

module _ {K D : Type 0} (cmp : K → K → Ordering) (o : IsTotalOrder cmp) where
  none_before : (k : K) (ps : List (K × D)) → AllByRecursion (λ p. Below cmp k p.0) ps → rows_at (is_before cmp (Some k)) ps ≡ []
  none_before k [] a = refl
  none_before k (p ∷ ps) a = rw (not_low cmp o p.0 k (λ low. not_both cmp o k p.0 (low_is_up cmp o k p.0 a.0) low)) (none_before k ps a.1)

  -- what a map has before one of its keys, and what it has after it
  before_key : (ps : List (K × D)) (k : K) (d : D) (qs : List (K × D)) → IsMap cmp (ps ++ (k, d) ∷ qs) → rows_at (is_before cmp (Some k)) (ps ++ (k, d) ∷ qs) ≡ ps
  before_key [] k d qs m = rw (not_low cmp o k k (not_low_self cmp o k)) (none_before k qs m.0)
  before_key (p ∷ ps) k d qs m = rw (map-before cmp (p ∷ ps) (k, d) qs m).0 (ap (λ w. p ∷ w) (before_key ps k d qs m.1))

  behind_key : (ps : List (K × D)) (k : K) (d : D) (qs : List (K × D)) → IsMap cmp (ps ++ (k, d) ∷ qs) → rows_at (is_after cmp (Some k)) (ps ++ (k, d) ∷ qs) ≡ qs
  behind_key [] k d qs m = rw (not_low cmp o k k (not_low_self cmp o k)) (all_pass (is_after cmp (Some k)) qs m.0)
  behind_key (p ∷ ps) k d qs m =
      rw (not_low cmp o k p.0 (λ low. not_both cmp o p.0 k (low_is_up cmp o p.0 k (map-before cmp (p ∷ ps) (k, d) qs m).0) low)) (behind_key ps k d qs m.1)

  -- so it is of the pairs of a tree in a gap
  module _ (g : Gap K) (root : Tree K D) (ps : List (K × D)) (k : K) (d : D) (qs : List (K × D)) (up : IsMap cmp (ps ++ (k, d) ∷ qs)) (all : pairs_within cmp g (pairs root) ≡ ps ++ (k, d) ∷ qs) where
    key_in : IsInGap cmp k g
    key_in = each-at (λ (p : K × D). IsInGap cmp p.0 g) ps (k, d) qs (subst (AllByRecursion (λ (p : K × D). IsInGap cmp p.0 g)) all (each_within cmp g (pairs root)))

    pub part_before_all : pairs_within cmp (part_before g k) (pairs root) ≡ ps
    part_before_all = within_before cmp o g k key_in (pairs root) ∙ ap (rows_at (is_before cmp (Some k))) all ∙ before_key ps k d qs up

    pub part_behind_all : pairs_within cmp (part_behind g k) (pairs root) ≡ qs
    part_behind_all = within_after cmp o g k key_in (pairs root) ∙ ap (rows_at (is_after cmp (Some k))) all ∙ behind_key ps k d qs up
