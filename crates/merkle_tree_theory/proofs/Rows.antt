-- A page's row, read off its list of nodes.
use Rattle.std.proofs.Common.{◌≡◌, ℕ, zero, suc, ◌+◌, ◌<◌, ◌≤◌, List, [], ◌∷◌, length, get_or, Option, refl, ap, arith}
use Rattle.merkle_tree_theory.specs.Tree.{Tree, page, Held, Node, row, tree_size, row_size, held_size, node_size}
use Rattle.merkle_tree_theory.specs.Page.{row_nodes}

module _ {K D : Type 0} where
  pub row_nodes-row : (es : List (Node K D)) (h : Held K D) → row_nodes (row es h) ≡ es
  row_nodes-row [] h = refl
  row_nodes-row (e ∷ es) h = ap (λ xs. e ∷ xs) (row_nodes-row es h)

  -- a node, and what is above them all, is no larger than the row
  pub size_at : (es : List (Node K D)) (h : Held K D) (i : ℕ) (d : Node K D) → i < length es → node_size (get_or es i d) ≤ row_size (row es h)
  size_at [] h i d r = absurd (omega arith)
  size_at (e ∷ es) h zero d r = omega arith
  size_at (e ∷ es) h (suc i) d r = let r' : i < length es = omega arith in omega (arith, size_at es h i d r')

  pub size_high : (es : List (Node K D)) (h : Held K D) → held_size h ≤ row_size (row es h)
  size_high [] h = omega arith
  size_high (e ∷ es) h = omega (arith, size_high es h)

  -- what stands in a gap of a page is smaller than the page
  module _ {l : ℕ} {c : Option (List ℕ)} {t : Tree K D} (es : List (Node K D)) (h : Held K D) (is : page l c (row es h) ≡ t) where
    whole : row_size (row es h) + 1 ≡ tree_size t
    whole = omega (arith, ap tree_size is)

    pub page_size-high : held_size h < tree_size t
    page_size-high = omega (arith, size_high es h, whole)

    pub page_size-gap : (i : ℕ) (x : Node K D) {e : Node K D} → e ≡ get_or es i x → i < length es → held_size e.lt < tree_size t
    page_size-gap i x at within =
        let same = ap (λ (e : Node K D). held_size e.lt) at in
        omega (arith, size_at es h i x within, same, whole)
