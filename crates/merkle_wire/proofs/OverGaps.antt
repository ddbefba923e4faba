-- What the page over a gap has of a tree's keys: each key of the gap is in it, as a node or in the gap of a page right below it.
use Rattle.std.proofs.Common.{◌≡◌, true, false, List, [], ◌∷◌, ◌++◌, Option, Some, None, refl, sym, subst, ◌∙◌, ◌⊎◌, inl, inr}
use Rattle.std.specs.List.{AllByRecursion}
use Rattle.std.specs.Cmp.{IsTotalOrder, tied_back}
use Rattle.std.specs.Ordering.{is_eq}
use Rattle.std.specs.declared.cmp.Ordering.{Ordering}
use Rattle.key_order.specs.Map.{IsMap, get}
use Rattle.key_order.specs.Order.{Below, Same}
use Rattle.key_order.proofs.Bools.{which, is_equal}
use Rattle.key_order.proofs.ListParts.{map-first, map-rest, map-before}
use Rattle.key_order.proofs.Maps.{at_head, past_head}
use Rattle.key_order.proofs.Orders.{up_low, low_up, same_up, same_down}
use Rattle.merkle_tree_theory.specs.Gap.{Gap, IsInGap, IsAfter, IsBefore, is_after, is_before}
use Rattle.merkle_tree_theory.specs.Lookup.{page_over, row_over, held_over}
use Rattle.merkle_tree_theory.specs.Page.{pairs, row_pairs, held_pairs}
use Rattle.merkle_tree_theory.specs.Ranges.{IsPageIn, IsPageInRow, IsPageInHeld}
use Rattle.merkle_tree_theory.specs.Tree.{Tree, page, Row, high, node, Held, nothing, below}
use Rattle.merkle_tree_theory.proofs.InGaps.{after_low, before_low, test_from_after, test_from_before}

module _ {K D : Type 0} (cmp : K → K → Ordering) (o : IsTotalOrder cmp) where
  -- where a key is found after a pair of a map, it is above the pair's key
  pub above : (j : K) (qs : List (K × D)) (k : K) (d : D) → AllByRecursion (λ q. Below cmp j q.0) qs → get cmp qs k ≡ Some d → Below cmp j k
  above j [] k d a e = absurd (cc)
  above j (q ∷ qs) k d a e = go (which (is_eq (cmp q.0 k))) (above j qs k d a.1)
    where
      go : (is_eq (cmp q.0 k) ≡ false) ⊎ (is_eq (cmp q.0 k) ≡ true) → (get cmp qs k ≡ Some d → Below cmp j k) → Below cmp j k
      go (inl n) more = more (sym (past_head cmp o q qs k n) ∙ e)
      go (inr n) more = low_up cmp o j q.0 k a.0 (same_up cmp o q.0 k (is_equal (cmp q.0 k) n))

  -- a key that a map has is before a pair of it, at it, or after it
  abbrev pub IsParted : List (K × D) → K → D → List (K × D) → K → D → Type 0
  IsParted ps j e qs k d = (Below cmp k j × (get cmp ps k ≡ Some d)) ⊎ ((Same cmp k j × (e ≡ d)) ⊎ (Below cmp j k × (get cmp qs k ≡ Some d)))

  pub get_parted : (ps : List (K × D)) (j : K) (e : D) (qs : List (K × D)) (k : K) (d : D) → IsMap cmp (ps ++ (j, e) ∷ qs) → get cmp (ps ++ (j, e) ∷ qs) k ≡ Some d → IsParted ps j e qs k d
  get_parted [] j e qs k d m f = go (which (is_eq (cmp j k)))
    where
      go : (is_eq (cmp j k) ≡ false) ⊎ (is_eq (cmp j k) ≡ true) → IsParted [] j e qs k d
      go (inl n) = let rest : get cmp qs k ≡ Some d = sym (past_head cmp o (j, e) qs k n) ∙ f in inr (inr (above j qs k d m.0 rest, rest))
      go (inr n) =
          let s = is_equal (cmp j k) n in
          let here : Some e ≡ Some d = sym (at_head cmp o (j, e) qs k s) ∙ f in
          inr (inl (tied_back o j k s, cc))
  get_parted (p ∷ ps) j e qs k d m f = go (which (is_eq (cmp p.0 k))) (get_parted ps j e qs k d m.1)
    where
      go : (is_eq (cmp p.0 k) ≡ false) ⊎ (is_eq (cmp p.0 k) ≡ true) → (get cmp (ps ++ (j, e) ∷ qs) k ≡ Some d → IsParted ps j e qs k d) → IsParted (p ∷ ps) j e qs k d
      go (inr n) more =
          let s = is_equal (cmp p.0 k) n in
          let low : Below cmp p.0 j = (map-before cmp (p ∷ ps) (j, e) qs m).0 in
          inl (up_low cmp o k p.0 j (same_down cmp o p.0 k s) low, at_head cmp o p ps k s ∙ sym (at_head cmp o p (ps ++ (j, e) ∷ qs) k s) ∙ f)
      go (inl n) more = by (more (sym (past_head cmp o p (ps ++ (j, e) ∷ qs) k n) ∙ f))
        where
          by : IsParted ps j e qs k d → IsParted (p ∷ ps) j e qs k d
          by (inl (low, g)) = inl (low, past_head cmp o p ps k n ∙ g)
          by (inr g) = inr g

module _ {K D : Type 0} (cmp : K → K → Ordering) (o : IsTotalOrder cmp) (g : Gap K) (k : K) (d : D) (inside : IsInGap cmp k g) where
  -- the page over a gap has each key of the gap
  abbrev pub HasOver : Option (Tree K D) → Tree K D → Type 0
  HasOver found t = (p : Tree K D) × (found ≡ Some p) × IsPageIn p t × (get cmp (pairs p) k ≡ Some d)

  abbrev HasOverRow : Tree K D → Row K D → Type 0
  HasOverRow t r = (p : Tree K D) × (row_over cmp g t r ≡ Some p) × ((p ≡ t) ⊎ (IsPageInRow p r × (get cmp (pairs p) k ≡ Some d)))

  abbrev HasOverHeld : Held K D → Type 0
  HasOverHeld h = (p : Tree K D) × (held_over cmp g h ≡ Some p) × IsPageInHeld p h × (get cmp (pairs p) k ≡ Some d)

  -- a node above the gap's first bound, and below its second or not
  not_after : (j : K) → is_after cmp g.after j ≡ false → Below cmp k j → ⊥
  not_after j n low = let never : true ≡ false = sym (test_from_after cmp g.after j (after_low cmp o g.after k j inside.0 low)) ∙ n in cc

  not_before : (j : K) → is_before cmp g.before j ≡ false → Below cmp j k → ⊥
  not_before j n low = let never : true ≡ false = sym (test_from_before cmp g.before j (before_low cmp o g.before j k inside.1 low)) ∙ n in cc

  at_after : (a : Option K) (j : K) → is_after cmp a j ≡ false → Same cmp k j → IsAfter cmp a k → ⊥
  at_after None j n s i = let never : true ≡ false = n in cc
  at_after (Some a) j n s i = let never : true ≡ false = sym (low_up cmp o a k j i (same_up cmp o k j s)) ∙ n in cc

  at_before : (b : Option K) (j : K) → is_before cmp b j ≡ false → Same cmp k j → IsBefore cmp b k → ⊥
  at_before None j n s i = let never : true ≡ false = n in cc
  at_before (Some b) j n s i = let never : true ≡ false = sym (up_low cmp o j k b (same_down cmp o k j s) i) ∙ n in cc

  mutual
    pub over_has : (t : Tree K D) → IsMap cmp (pairs t) → get cmp (pairs t) k ≡ Some d → HasOver (page_over cmp g t) t
    over_has (page l c r) m e = go (row_has (page l c r) r m e)
      where
        go : HasOverRow (page l c r) r → HasOver (page_over cmp g (page l c r)) (page l c r)
        go (p, f, inl q) = (p, f, inl q, subst (λ (u : Tree K D). get cmp (pairs u) k ≡ Some d) (sym q) e)
        go (p, f, inr (i, q)) = (p, f, inr i, q)

    row_has : (t : Tree K D) (r : Row K D) → IsMap cmp (row_pairs r) → get cmp (row_pairs r) k ≡ Some d → HasOverRow t r
    row_has t (high h) m e = let (p, f, i, q) = held_has h m e in (p, f, inr (i, q))
    row_has t (node h j c r) m e =
        by (which (is_after cmp g.after j)) (which (is_before cmp g.before j)) (get_parted cmp o (held_pairs h) j c (row_pairs r) k d m e)
        (held_has h (map-first cmp (held_pairs h) ((j, c) ∷ row_pairs r) m)) (row_has t r (map-rest cmp (held_pairs h) ((j, c) ∷ row_pairs r) m).1)
      where
        from_held : is_after cmp g.after j ≡ true → is_before cmp g.before j ≡ false → HasOverHeld h → HasOverRow t (node h j c r)
        from_held a b (p, f, i, q) = (p, rw (a, b) f, inr (inl i, q))

        from_rest : is_after cmp g.after j ≡ false → HasOverRow t r → HasOverRow t (node h j c r)
        from_rest a (p, f, inl q) = (p, rw a f, inl q)
        from_rest a (p, f, inr (i, q)) = (p, rw a f, inr (inr i, q))

        by : (is_after cmp g.after j ≡ false) ⊎ (is_after cmp g.after j ≡ true) → (is_before cmp g.before j ≡ false) ⊎ (is_before cmp g.before j ≡ true)
            → IsParted cmp o (held_pairs h) j c (row_pairs r) k d
            → (get cmp (held_pairs h) k ≡ Some d → HasOverHeld h) → (get cmp (row_pairs r) k ≡ Some d → HasOverRow t r) → HasOverRow t (node h j c r)
        by (inr a) (inr b) parted held rest = (t, rw (a, b) refl, inl refl)
        by (inr a) (inl b) (inl (low, f)) held rest = from_held a b (held f)
        by (inr a) (inl b) (inr (inl (s, f))) held rest = absurd (at_before g.before j b s inside.1)
        by (inr a) (inl b) (inr (inr (low, f))) held rest = absurd (not_before j b low)
        by (inl a) b (inl (low, f)) held rest = absurd (not_after j a low)
        by (inl a) b (inr (inl (s, f))) held rest = absurd (at_after g.after j a s inside.0)
        by (inl a) b (inr (inr (low, f))) held rest = from_rest a (rest f)

    held_has : (h : Held K D) → IsMap cmp (held_pairs h) → get cmp (held_pairs h) k ≡ Some d → HasOverHeld h
    held_has nothing m e = absurd (cc)
    held_has (below t) m e = over_has t m e
