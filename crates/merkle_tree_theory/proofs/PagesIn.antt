-- The pages in a page: what goes down from each page to those right below it holds of every page in it.
use Rattle.std.proofs.Common.{◌∷◌, refl, sym, subst, inl, inr}
use Rattle.std.specs.List.{AllByRecursion}
use Rattle.key_order.proofs.ListParts.{each-before, each-behind}
use Rattle.merkle_tree_theory.specs.Tree.{Tree, page, Row, high, node, Held, nothing, below}
use Rattle.merkle_tree_theory.specs.Page.{pairs, row_pairs, held_pairs}
use Rattle.merkle_tree_theory.specs.Ranges.{IsPageIn, IsPageInRow, IsPageInHeld}

pub itself : {K D : Type 0} (t : Tree K D) → IsPageIn t t
itself (page l c r) = inl refl

module _ {K D : Type 0} where
  mutual
    -- a page in a page of a tree is in the tree
    pub page_in : (x s t : Tree K D) → IsPageIn x s → IsPageIn s t → IsPageIn x t
    page_in x s (page l c r) a (inl e) = subst (IsPageIn x) e a
    page_in x s (page l c r) a (inr b) = inr (page_in_row x s r a b)

    page_in_row : (x s : Tree K D) (r : Row K D) → IsPageIn x s → IsPageInRow s r → IsPageInRow x r
    page_in_row x s (high h) a b = page_in_held x s h a b
    page_in_row x s (node h k d r) a (inl b) = inl (page_in_held x s h a b)
    page_in_row x s (node h k d r) a (inr b) = inr (page_in_row x s r a b)

    page_in_held : (x s : Tree K D) (h : Held K D) → IsPageIn x s → IsPageInHeld s h → IsPageInHeld x h
    page_in_held x s nothing a b = absurd b
    page_in_held x s (below t) a b = page_in x s t a b

abbrev pub MatchRow : {K D : Type 0} → (Row K D → Type 0) → Tree K D → Type 0
MatchRow Q (page l c r) = Q r

-- P goes down from a page to its row as Q, and from a row to each page right below it as P again
pub record GoesDown {K D : Type 0} (P : Tree K D → Type 0) (Q : Row K D → Type 0) : Type 0 where
  pub to_row : (t : Tree K D) → P t → MatchRow Q t
  pub to_high : (t : Tree K D) → Q (high (below t)) → P t
  pub to_below : (t : Tree K D) (k : K) (d : D) (r : Row K D) → Q (node (below t) k d r) → P t
  pub to_rest : (h : Held K D) (k : K) (d : D) (r : Row K D) → Q (node h k d r) → Q r

module _ {K D : Type 0} {P : Tree K D → Type 0} {Q : Row K D → Type 0} (down : GoesDown P Q) where
  mutual
    pub inside : (s t : Tree K D) → P t → IsPageIn s t → P s
    inside s (page l c r) p (inl e) = subst P (sym e) p
    inside s (page l c r) p (inr i) = inside_row s r (down.to_row (page l c r) p) i

    pub inside_row : (s : Tree K D) (r : Row K D) → Q r → IsPageInRow s r → P s
    inside_row s (high nothing) q i = absurd i
    inside_row s (high (below t)) q i = inside s t (down.to_high t q) i
    inside_row s (node nothing k d r) q (inl i) = absurd i
    inside_row s (node (below t) k d r) q (inl i) = inside s t (down.to_below t k d r q) i
    inside_row s (node h k d r) q (inr i) = inside_row s r (down.to_rest h k d r q) i

module _ {K D : Type 0} (P : K × D → Type 0) where
  -- what holds of all pairs of a page holds of those of a page in it
  pub pairs_down : GoesDown (λ t. AllByRecursion P (pairs t)) (λ r. AllByRecursion P (row_pairs r))
  pairs_down = record {
    to_row = row_of;
    to_high = λ t a. a;
    to_below = λ t k d r a. each-before P (pairs t) ((k, d) ∷ row_pairs r) a;
    to_rest = λ h k d r a. (each-behind P (held_pairs h) ((k, d) ∷ row_pairs r) a).1;
  }
    where
      row_of : (t : Tree K D) → AllByRecursion P (pairs t) → MatchRow (λ r. AllByRecursion P (row_pairs r)) t
      row_of (page l c r) a = a
