-- The path of an iteration.
use Rattle.std.proofs.Common.{◌≡◌, ℕ, suc, ◌+◌, ◌<◌, ◌≤◌, List, [], ◌∷◌, ◌++◌, length, get_or, refl, ap, sym, ◌∙◌, append_assoc, append-nil, arith}
use Rattle.merkle_tree_theory.specs.Tree.{Tree, Held, Node, row, held_of}
use Rattle.merkle_tree_theory.specs.Page.{row_in_order, held_in_order, row_pages, held_pages}
use Rattle.merkle_search_tree.specs.Path.{from_first, behind_first, visit_rest, rest_of, pages_left, VisitFits, PathFits}
use Rattle.merkle_search_tree.specs.declared.path.Visit.{Visit}

module _ {K D : Type 0} where
  pub rest_of-push : (vs : List (Visit K D)) (v : Visit K D) → rest_of (vs ++ v ∷ []) ≡ visit_rest v ++ rest_of vs
  rest_of-push [] v = sym (append-nil (visit_rest v))
  rest_of-push (w ∷ ws) v = ap (λ xs. xs ++ visit_rest w) (rest_of-push ws v) ∙ append_assoc (visit_rest v) (rest_of ws) (visit_rest w)

  pub pages_left-push : (vs : List (Visit K D)) (v : Visit K D) → pages_left (vs ++ v ∷ []) ≡ behind_first (row v.nodes.now (held_of v.high_page.now)) ++ pages_left vs
  pages_left-push [] v = sym (append-nil (behind_first (row v.nodes.now (held_of v.high_page.now))))
  pages_left-push (w ∷ ws) v =
      ap (λ xs. xs ++ behind_first (row w.nodes.now (held_of w.high_page.now))) (pages_left-push ws v)
      ∙ append_assoc (behind_first (row v.nodes.now (held_of v.high_page.now))) (pages_left ws) (behind_first (row w.nodes.now (held_of w.high_page.now)))

  pub fits-more : (c c' : ℕ) → c ≤ c' → (n : ℕ) (vs : List (Visit K D)) → PathFits c n vs → PathFits c' n vs
  fits-more c c' h n [] f = tt
  fits-more c c' h n (v ∷ vs) f = ((f.0.0, f.0.1, omega (arith, f.0.2)), fits-more c c' h (suc n) vs f.1)

  pub fits-push : (c n : ℕ) (vs : List (Visit K D)) (v : Visit K D) → PathFits c n vs → VisitFits c (n + length vs) v → PathFits c n (vs ++ v ∷ [])
  fits-push c n [] v f g = ((g.0, g.1, omega (arith, g.2)), tt)
  fits-push c n (w ∷ ws) v f g = (f.0, fits-push c (suc n) ws v f.1 (g.0, g.1, omega (arith, g.2)))

  pub fits-front : (c n : ℕ) (vs : List (Visit K D)) (v : Visit K D) → PathFits c n (vs ++ v ∷ []) → PathFits c n vs
  fits-front c n [] v f = tt
  fits-front c n (w ∷ ws) v f = (f.0, fits-front c (suc n) ws v f.1)

  pub fits-last : (c n : ℕ) (vs : List (Visit K D)) (v : Visit K D) → PathFits c n (vs ++ v ∷ []) → VisitFits c (n + length vs) v
  fits-last c n [] v f = (f.0.0, f.0.1, omega (arith, f.0.2))
  fits-last c n (w ∷ ws) v f = let g = fits-last c (suc n) ws v f.1 in (g.0, g.1, omega (arith, g.2))

  -- what stands before the first node of a row, and the row from there on
  pub first-rest : (es : List (Node K D)) (h : Held K D) (d : Node K D) (xs : List (Node K D)) → 0 < length es
      → held_in_order (get_or es 0 d).lt ++ (from_first (row es h) ++ xs) ≡ row_in_order (row es h) ++ xs
  first-rest [] h d xs r = absurd (omega arith)
  first-rest (e ∷ es) h d xs r = sym (append_assoc (held_in_order e.lt) (from_first (row (e ∷ es) h)) xs)

  pub none-rest : (es : List (Node K D)) (h : Held K D) → length es ≡ 0 → row_in_order (row es h) ≡ held_in_order h
  none-rest [] h e = refl
  none-rest (x ∷ xs) h e = absurd (omega arith)

  -- the same of the pages
  pub first-pages : (es : List (Node K D)) (h : Held K D) (d : Node K D) (xs : List (Tree K D)) → 0 < length es
      → held_pages (get_or es 0 d).lt ++ (behind_first (row es h) ++ xs) ≡ row_pages (row es h) ++ xs
  first-pages [] h d xs r = absurd (omega arith)
  first-pages (e ∷ es) h d xs r = sym (append_assoc (held_pages e.lt) (behind_first (row (e ∷ es) h)) xs)

  pub none-pages : (es : List (Node K D)) (h : Held K D) → length es ≡ 0 → row_pages (row es h) ≡ held_pages h
  none-pages [] h e = refl
  none-pages (x ∷ xs) h e = absurd (omega arith)
