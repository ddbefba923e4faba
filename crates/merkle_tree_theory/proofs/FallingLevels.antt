-- Levels fall from page to page, and the nodes of a page in order are its map.
use Rattle.std.proofs.Common.{◌≡◌, ℕ, zero, suc, ◌<◌, List, [], ◌∷◌, ◌++◌, length, map, get_or, refl, ap, ◌∙◌, arith}
use Rattle.merkle_tree_theory.specs.Tree.{Tree, page, Row, high, node, Held, nothing, below, Node, row}
use Rattle.merkle_tree_theory.specs.Page.{pair_of, pairs, row_pairs, held_pairs, nodes_in_order, row_in_order, held_in_order, row_pages, LevelsFall, RowFalls, HeldFalls}
use Rattle.merkle_tree_theory.specs.Canonical.{IsCanonical, IsRow, IsGap, IsCanonicalRoot}

module _ {K D : Type 0} where
  pub at-falls : (l : ℕ) (es : List (Node K D)) (h : Held K D) (i : ℕ) (d : Node K D) → i < length es → RowFalls l (row es h) → HeldFalls l (get_or es i d).lt
  at-falls l [] h i d r f = absurd (omega arith)
  at-falls l (e ∷ es) h zero d r f = f.0
  at-falls l (e ∷ es) h (suc i) d r f = at-falls l es h i d (omega arith) f.1

  pub high-falls : (l : ℕ) (es : List (Node K D)) (h : Held K D) → RowFalls l (row es h) → HeldFalls l h
  high-falls l [] h f = f
  high-falls l (e ∷ es) h f = high-falls l es h f.1

  -- below a page of level 0 there is none
  pub no-pages : (r : Row K D) → RowFalls 0 r → row_pages r ≡ []
  no-pages (high nothing) f = refl
  no-pages (high (below t)) f = absurd (omega arith)
  no-pages (node nothing k d r) f = no-pages r f.1
  no-pages (node (below t) k d r) f = absurd (omega arith)

  mutual
    -- the nodes in order are the map
    pub in_order-pairs : (t : Tree K D) → map pair_of (nodes_in_order t) ≡ pairs t
    in_order-pairs (page l c r) = row_in_order-pairs r

    row_in_order-pairs : (r : Row K D) → map pair_of (row_in_order r) ≡ row_pairs r
    row_in_order-pairs (high h) = held_in_order-pairs h
    row_in_order-pairs (node h k d r) = map-both (held_in_order h) (row_in_order r) ∙ (λ i. held_in_order-pairs h i ++ (k, d) ∷ row_in_order-pairs r i)
      where
        map-both : (xs ys : List (Node K D)) → map pair_of (xs ++ record { lt = h; key = k; digest = d } ∷ ys) ≡ map pair_of xs ++ (k, d) ∷ map pair_of ys
        map-both [] ys = refl
        map-both (x ∷ xs) ys = ap (λ zs. (x.key, x.digest) ∷ zs) (map-both xs ys)

    held_in_order-pairs : (h : Held K D) → map pair_of (held_in_order h) ≡ held_pairs h
    held_in_order-pairs nothing = refl
    held_in_order-pairs (below t) = in_order-pairs t

module _ {K D : Type 0} (lev : K → ℕ) where
  mutual
    -- the levels of a canonical page fall
    canonical-falls : (t : Tree K D) → IsCanonical lev t → LevelsFall t
    canonical-falls (page l c r) p = row-falls l r p

    row-falls : (l : ℕ) (r : Row K D) → IsRow lev l r → RowFalls l r
    row-falls l (high h) p = gap-falls l h p
    row-falls l (node h k d r) p = (gap-falls l h p.0, row-falls l r p.2)

    gap-falls : (l : ℕ) (h : Held K D) → IsGap lev l h → HeldFalls l h
    gap-falls l nothing p = tt
    gap-falls l (below t) p = (p.0, canonical-falls t p.2)

  pub root-falls : (t : Tree K D) → IsCanonicalRoot lev t → LevelsFall t
  root-falls (page l c (high nothing)) p = tt
  root-falls (page l c (high (below t))) p = absurd p
  root-falls (page l c (node h k d r)) p = row-falls l (node h k d r) p
