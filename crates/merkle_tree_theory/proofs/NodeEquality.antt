-- Equality of pages by their lists of nodes.
use Rattle.std.proofs.Common.{◌≡◌, ℕ, zero, suc, ◌<◌, ◌≤◌, Bool, true, false, ◌&&◌, ◌==◌, Option, List, [], ◌∷◌, length, drop, get_or, refl, ap, sym, ◌∙◌, arith}
use Rattle.std.proofs.lemmas.List.{drop_all}
use Rattle.std.proofs.Math.Bool.{and_assoc}
use Rattle.std.specs.Cmp.{nat_eq_equiv}
use Rattle.merkle_tree_theory.specs.Tree.{page, Held, Node, row}
use Rattle.merkle_tree_theory.specs.Equal.{tree_eq, row_eq, held_eq, node_eq}

eqb-true-from : (l m : ℕ) → l ≡ m → (l == m) ≡ true
eqb-true-from l m e = ap (λ n. l == n) (sym e) ∙ nat_eq_equiv.refl l

module _ {K D : Type 0} (C : Option (List ℕ) → Option (List ℕ) → Bool) (E : K → K → Bool) (F : D → D → Bool) where
  -- of two lists of nodes
  abbrev pub nodes_eq : List (Node K D) → List (Node K D) → Bool
  nodes_eq [] [] = true
  nodes_eq [] (y ∷ ys) = false
  nodes_eq (x ∷ xs) [] = false
  nodes_eq (x ∷ xs) (y ∷ ys) = node_eq C E F x y && nodes_eq xs ys

  pub row_eq-row : (xs ys : List (Node K D)) (g h : Held K D) → row_eq C E F (row xs g) (row ys h) ≡ nodes_eq xs ys && held_eq C E F g h
  row_eq-row [] [] g h = refl
  row_eq-row [] (y ∷ ys) g h = refl
  row_eq-row (x ∷ xs) [] g h = refl
  row_eq-row (x ∷ xs) (y ∷ ys) g h = ap (λ b. node_eq C E F x y && b) (row_eq-row xs ys g h) ∙ sym (and_assoc (node_eq C E F x y) (nodes_eq xs ys) (held_eq C E F g h))

  pub nodes_eq-length : (xs ys : List (Node K D)) → nodes_eq xs ys ≡ true → length xs ≡ length ys
  nodes_eq-length [] [] e = refl
  nodes_eq-length [] (y ∷ ys) e = absurd (cc)
  nodes_eq-length (x ∷ xs) [] e = absurd (cc)
  nodes_eq-length (x ∷ xs) (y ∷ ys) e = let l = nodes_eq-length xs ys (second (node_eq C E F x y) e) in omega arith
    where
      second : (a : Bool) {b : Bool} → a && b ≡ true → b ≡ true
      second true p = p
      second false p = absurd (cc)

  -- the nodes at one place, and those after
  pub nodes_eq-at : (xs ys : List (Node K D)) (i : ℕ) (x y : Node K D) → i < length xs → i < length ys
      → nodes_eq (drop i xs) (drop i ys) ≡ node_eq C E F (get_or xs i x) (get_or ys i y) && nodes_eq (drop (suc i) xs) (drop (suc i) ys)
  nodes_eq-at [] ys i x y p q = absurd (omega arith)
  nodes_eq-at (z ∷ zs) [] i x y p q = absurd (omega arith)
  nodes_eq-at (z ∷ zs) (w ∷ ws) zero x y p q = refl
  nodes_eq-at (z ∷ zs) (w ∷ ws) (suc i) x y p q = nodes_eq-at zs ws i x y (omega arith) (omega arith)

  -- where the nodes at one place differ, so do the lists
  pub nodes_eq-differ : (xs ys : List (Node K D)) (i : ℕ) (x y : Node K D) → i < length xs → i < length ys → x ≡ get_or xs i x → y ≡ get_or ys i y → node_eq C E F x y ≡ false
      → nodes_eq (drop i xs) (drop i ys) ≡ false
  nodes_eq-differ xs ys i x y p q a b e =
      nodes_eq-at xs ys i x y p q ∙ (λ j. node_eq C E F (sym a j) (sym b j) && nodes_eq (drop (suc i) xs) (drop (suc i) ys)) ∙ ap (λ c. c && nodes_eq (drop (suc i) xs) (drop (suc i) ys)) e

  pub nodes_eq-end : (xs ys : List (Node K D)) (i : ℕ) → length xs ≤ i → length ys ≤ i → nodes_eq (drop i xs) (drop i ys) ≡ true
  nodes_eq-end xs ys i p q = rw (drop_all i xs p, drop_all i ys q) refl

  -- equality of pages, where their levels and caches are equal and their nodes too
  pub tree_eq-from : (l m : ℕ) (c d : Option (List ℕ)) (xs ys : List (Node K D)) (g h : Held K D) → l ≡ m → C c d ≡ true → nodes_eq xs ys ≡ true
      → tree_eq C E F (page l c (row xs g)) (page m d (row ys h)) ≡ held_eq C E F g h
  tree_eq-from l m c d xs ys g h p q r = ap (λ b. l == m && C c d && b) (row_eq-row xs ys g h) ∙ rw (eqb-true-from l m p, q, r) refl

  -- and where their nodes are not
  pub tree_eq-not : (l m : ℕ) (c d : Option (List ℕ)) (xs ys : List (Node K D)) (g h : Held K D) → nodes_eq xs ys ≡ false → tree_eq C E F (page l c (row xs g)) (page m d (row ys h)) ≡ false
  tree_eq-not l m c d xs ys g h r = ap (λ b. l == m && C c d && b) (row_eq-row xs ys g h ∙ ap (λ b. b && held_eq C E F g h) r) ∙ never (l == m && C c d)
    where
      never : (b : Bool) → b && false ≡ false
      never true = refl
      never false = refl
