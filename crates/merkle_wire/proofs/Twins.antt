-- Rows that are sorted ascend, or two that follow one another have equal keys.
use Rattle.std.proofs.Common.{◌≡◌, suc, ◌+◌, Bool, List, [], ◌∷◌, ◌++◌, get_or, map, Option, Some, None, refl, sym, ap, ap₂, subst, ◌∙◌, ◌⊎◌, inl, inr, arith}
use Rattle.std.specs.Cmp.{IsTotalOrder}
use Rattle.std.specs.List.Sorted.{IsPermutation, IsSortedBy}
use Rattle.std.specs.Ordering.{is_lt}
use Rattle.std.specs.declared.cmp.Ordering.{Ordering}
use Rattle.std.proofs.lemmas.List.Sorted.{IsPermutation-cons, IsPermutation-middle, IsPermutation-trans}
use Rattle.key_order.specs.Order.{Below, Same, Upto}
use Rattle.key_order.proofs.Orders.{either, same_from, turned}
use Rattle.merkle_tree_theory.specs.Gap.{IsAfter}
use Rattle.merkle_wire.specs.Coming.{AscendBetween}
use Rattle.merkle_wire.specs.Next.{HaveTwins}

module _ {K V : Type 0} (cmp : K → K → Ordering) (o : IsTotalOrder cmp) where
  abbrev pub row_below : K × V → K × V → Bool
  row_below a b = is_lt (cmp a.0 b.0)

  -- two rows that follow one another have equal keys
  record HaveNeighbours (rows : List (K × V)) : Type 0 where
    pub front : List (K × V)
    pub first : K × V
    pub next : K × V
    pub back : List (K × V)
    pub is : rows ≡ front ++ first ∷ next ∷ back
    pub same : Same cmp first.0 next.0

  neighbours_are_twins : (rows : List (K × V)) → HaveNeighbours rows → HaveTwins cmp rows
  neighbours_are_twins rows n = (
    n.first,
    n.next,
    n.front ++ n.back,
    subst (λ xs. IsPermutation xs (n.first ∷ n.next ∷ (n.front ++ n.back))) (sym n.is)
        (IsPermutation-trans _ _ _ (IsPermutation-middle n.front n.first (n.next ∷ n.back)) (IsPermutation-cons n.first _ _ (IsPermutation-middle n.front n.next n.back))),
    n.same,
  )

  sorted_rest : (r : K × V) (rows : List (K × V)) → IsSortedBy row_below (r ∷ rows) → IsSortedBy row_below rows
  sorted_rest r rows s = λ k d l h.
      let next : suc (k + 1) ≡ k + 1 + 1 = omega arith in
      let this : suc k ≡ k + 1 = omega arith in
      ap₂ (λ i j. row_below (get_or (r ∷ rows) i d) (get_or (r ∷ rows) j d)) next this ∙ s (k + 1) d (omega arith) (omega (arith, h))

  ascend_or_not : (after : Option K) (r : K × V) (rows : List (K × V)) → IsAfter cmp after r.0 → IsSortedBy row_below (r ∷ rows)
      → AscendBetween cmp after None (map (λ s. s.0) (r ∷ rows)) ⊎ HaveNeighbours (r ∷ rows)
  ascend_or_not after r [] above sorted = inl (above, tt, tt)
  ascend_or_not after r (s ∷ rows) above sorted = go (λ low. ascend_or_not (Some r.0) s rows low (sorted_rest r (s ∷ rows) sorted)) (either cmp o s.0 r.0)
    where
      rest : AscendBetween cmp (Some r.0) None (map (λ t. t.0) (s ∷ rows)) ⊎ HaveNeighbours (s ∷ rows) → AscendBetween cmp after None (map (λ t. t.0) (r ∷ s ∷ rows)) ⊎ HaveNeighbours (r ∷ s ∷ rows)
      rest (inl up) = inl (above, tt, up)
      rest (inr n) = inr (record { front = r ∷ n.front; first = n.first; next = n.next; back = n.back; is = ap (λ t. r ∷ t) n.is; same = n.same })

      upto : Upto cmp r.0 s.0
      upto = sym (turned cmp o r.0 s.0) ∙ sorted 0 r (omega arith) (omega arith)

      go : (Below cmp r.0 s.0 → AscendBetween cmp (Some r.0) None (map (λ t. t.0) (s ∷ rows)) ⊎ HaveNeighbours (s ∷ rows)) → Upto cmp s.0 r.0 ⊎ Below cmp r.0 s.0
          → AscendBetween cmp after None (map (λ t. t.0) (r ∷ s ∷ rows)) ⊎ HaveNeighbours (r ∷ s ∷ rows)
      go more (inr low) = rest (more low)
      go more (inl up) = inr (record { front = []; first = r; next = s; back = rows; is = refl; same = same_from cmp o r.0 s.0 upto up })

  -- sorted rows that don't ascend have twins
  pub sorted_twins : (rows : List (K × V)) → IsSortedBy row_below rows → ¬ AscendBetween cmp None None (map (λ r. r.0) rows) → HaveTwins cmp rows
  sorted_twins [] sorted not = absurd (not tt)
  sorted_twins (r ∷ rows) sorted not = go (ascend_or_not None r rows tt sorted)
    where
      go : AscendBetween cmp None None (map (λ s. s.0) (r ∷ rows)) ⊎ HaveNeighbours (r ∷ rows) → HaveTwins cmp (r ∷ rows)
      go (inl up) = absurd (not up)
      go (inr n) = neighbours_are_twins (r ∷ rows) n

  -- so have the rows of which these are all
  pub twins_of : (rows sorted : List (K × V)) → IsPermutation rows sorted → HaveTwins cmp sorted → HaveTwins cmp rows
  twins_of rows sorted all (first, next, others, are, same) = (first, next, others, IsPermutation-trans _ _ _ all are, same)
