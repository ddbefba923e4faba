-- A map whose tree is in memory is small.
use Rattle.std.proofs.Common.{◌≡◌, ℕ, ◌+◌, ◌<◌, ◌^◌, List, [], ◌∷◌, ◌++◌, length, take, get_or, inl, inr, sym, subst}
use Rattle.std.proofs.lemmas.List.{take_more}
use Rattle.std.specs.List.{AllByRecursion}
use Rattle.std.specs.declared.cmp.Ordering.{Ordering}
use Rattle.merkle_tree_theory.specs.Tree.{Tree, page, Row, high, node, Held, nothing, below, Node, row}
use Rattle.merkle_tree_theory.specs.Page.{nodes_of, pairs, row_pairs, held_pairs}
use Rattle.merkle_tree_theory.specs.Canonical.{SamePages, SameRow, SameHeld}
use Rattle.merkle_tree_theory.specs.Ranges.{IsPageIn, IsPageInRow, IsPageInHeld}
use Rattle.merkle_tree_theory.specs.Small.{IsHeldInMemory, RowIsHeld, BelowIsHeld}
use Rattle.merkle_tree_theory.proofs.Same.{same_count}

module _ {X : Type 0} (P : X → Type 0) where
  all-both : (xs ys : List X) → AllByRecursion P xs → AllByRecursion P ys → AllByRecursion P (xs ++ ys)
  all-both [] ys a b = b
  all-both (x ∷ xs) ys a b = (a.0, all-both xs ys a.1 b)

  -- one more element
  pub all-more : (xs : List X) (i : ℕ) (x : X) → i < length xs → AllByRecursion P (take i xs) → P (get_or xs i x) → AllByRecursion P (take (i + 1) xs)
  all-more xs i x r a p = subst (AllByRecursion P) (sym (take_more xs i x r)) (all-both (take i xs) (get_or xs i x ∷ []) a (p, tt))

module _ {K : Type 0} (bytes_of : K → List ℕ) (n : ℕ) where
  -- the same of one node and what is below it
  abbrev pub NodeIsHeld : Node K (List ℕ) → Type 0
  NodeIsHeld e = BelowIsHeld bytes_of n e.lt × (length (bytes_of e.key) < 2 ^ 64) × (length e.digest ≡ n)

  pub RowIsHeld-row : (es : List (Node K (List ℕ))) (h : Held K (List ℕ)) → AllByRecursion NodeIsHeld es → BelowIsHeld bytes_of n h → RowIsHeld bytes_of n (row es h)
  RowIsHeld-row [] h a b = b
  RowIsHeld-row (e ∷ es) h a b = (a.0.0, a.0.1, a.0.2, RowIsHeld-row es h a.1 b)

  mutual
    -- the keys are short
    pub keys_short : (t : Tree K (List ℕ)) → IsHeldInMemory bytes_of n t → AllByRecursion (λ p. length (bytes_of p.0) < 2 ^ 64) (pairs t)
    keys_short (page l c r) a = row_keys r a.1

    row_keys : (r : Row K (List ℕ)) → RowIsHeld bytes_of n r → AllByRecursion (λ p. length (bytes_of p.0) < 2 ^ 64) (row_pairs r)
    row_keys (high h) a = held_keys h a
    row_keys (node h k d r) a = all-both (λ p. length (bytes_of p.0) < 2 ^ 64) (held_pairs h) ((k, d) ∷ row_pairs r) (held_keys h a.0) (a.1, row_keys r a.3)

    held_keys : (h : Held K (List ℕ)) → BelowIsHeld bytes_of n h → AllByRecursion (λ p. length (bytes_of p.0) < 2 ^ 64) (held_pairs h)
    held_keys nothing a = tt
    held_keys (below t) a = keys_short t a

  mutual
    -- the value digests have their length
    pub digests_long : (t : Tree K (List ℕ)) → IsHeldInMemory bytes_of n t → AllByRecursion (λ p. length p.1 ≡ n) (pairs t)
    digests_long (page l c r) a = row_digests r a.1

    row_digests : (r : Row K (List ℕ)) → RowIsHeld bytes_of n r → AllByRecursion (λ p. length p.1 ≡ n) (row_pairs r)
    row_digests (high h) a = held_digests h a
    row_digests (node h k d r) a = all-both (λ (p : K × List ℕ). length p.1 ≡ n) (held_pairs h) ((k, d) ∷ row_pairs r) (held_digests h a.0) (a.2, row_digests r a.3)

    held_digests : (h : Held K (List ℕ)) → BelowIsHeld bytes_of n h → AllByRecursion (λ p. length p.1 ≡ n) (held_pairs h)
    held_digests nothing a = tt
    held_digests (below t) a = digests_long t a

  module _ (cmp : K → K → Ordering) where
    mutual
      -- each page of a tree with the same pages has few nodes
      pub pages_few : (t u : Tree K (List ℕ)) → SamePages cmp t u → IsHeldInMemory bytes_of n u → (s : Tree K (List ℕ)) → IsPageIn s t → length (nodes_of s) < 2 ^ 64
      pages_few (page l c r) (page l' c' r') same a s (inl e) = subst (λ x. length (nodes_of x) < 2 ^ 64) (sym e) (subst (λ m. m < 2 ^ 64) (sym (same_count cmp r r' same.2)) a.0)
      pages_few (page l c r) (page l' c' r') same a s (inr i) = row_few r r' same.2 a.1 s i

      row_few : (r r' : Row K (List ℕ)) → SameRow cmp r r' → RowIsHeld bytes_of n r' → (s : Tree K (List ℕ)) → IsPageInRow s r → length (nodes_of s) < 2 ^ 64
      row_few (high h) (high h') same a s i = held_few h h' same a s i
      row_few (high h) (node h' k' d' r') same a s i = absurd same
      row_few (node h k d r) (high h') same a s i = absurd same
      row_few (node h k d r) (node h' k' d' r') same a s (inl i) = held_few h h' same.0 a.0 s i
      row_few (node h k d r) (node h' k' d' r') same a s (inr i) = row_few r r' same.3 a.3 s i

      held_few : (h h' : Held K (List ℕ)) → SameHeld cmp h h' → BelowIsHeld bytes_of n h' → (s : Tree K (List ℕ)) → IsPageInHeld s h → length (nodes_of s) < 2 ^ 64
      held_few nothing h' same a s i = absurd i
      held_few (below t) nothing same a s i = absurd same
      held_few (below t) (below t') same a s i = pages_few t t' same a s i
