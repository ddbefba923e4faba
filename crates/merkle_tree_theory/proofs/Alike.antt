-- A copy is equal to its original.
use Rattle.std.proofs.Common.{◌≡◌, ℕ, Bool, true, ◌&&◌, ◌==◌, List, Option, refl, sym, ◌∙◌, subst}
use Rattle.std.specs.Cmp.{IsPartialEquivalence, IsEquivalence, nat_eq_equiv, partial_equiv_from_equiv}
use Rattle.merkle_tree_theory.specs.Tree.{Tree, page, Row, high, node, Held, nothing, below, Node}
use Rattle.merkle_tree_theory.specs.Equal.{tree_eq, row_eq, held_eq, node_eq}
use Rattle.merkle_tree_theory.specs.EqualLaws.{tree_eq_laws, node_eq_laws}
use Rattle.merkle_tree_theory.specs.Copy.{IsCopy, RowIsCopy, HeldIsCopy, NodeIsCopy}

join : {a b : Bool} → a ≡ true → b ≡ true → a && b ≡ true
join p q = λ i. p i && q i

-- C, E and F are the equality of cached digests, of keys and of value digests, and R relates a key to its copy
module _ {K D : Type 0} (C : Option (List ℕ) → Option (List ℕ) → Bool) (E : K → K → Bool) (F : D → D → Bool) (c : IsEquivalence C) (e : IsPartialEquivalence E)
    (f : IsEquivalence F) (R : K → K → Type 0)
    (r : (a b : K) → R a b → E a b ≡ true) where
  mutual
    tree_alike : (t u : Tree K D) → IsCopy R (λ d g. g ≡ d) t u → tree_eq C E F t u ≡ true
    tree_alike (page l d x) (page l' d' x') h = join (join (subst (λ m. l == m ≡ true) h.0 (nat_eq_equiv.refl l)) (subst (λ g. C d g ≡ true) h.1 (c.refl d))) (row_alike x x' h.2)

    row_alike : (t u : Row K D) → RowIsCopy R (λ d g. g ≡ d) t u → row_eq C E F t u ≡ true
    row_alike (high g) (high g') h = held_alike g g' h
    row_alike (high g) (node g' k' d' x') h = absurd h
    row_alike (node g k d x) (high g') h = absurd h
    row_alike (node g k d x) (node g' k' d' x') h = join (join (join (held_alike g g' h.0) (r k k' h.1)) (subst (λ v. F d v ≡ true) (sym h.2) (f.refl d))) (row_alike x x' h.3)

    held_alike : (t u : Held K D) → HeldIsCopy R (λ d g. g ≡ d) t u → held_eq C E F t u ≡ true
    held_alike nothing nothing h = refl
    held_alike nothing (below u) h = absurd h
    held_alike (below t) nothing h = absurd h
    held_alike (below t) (below u) h = tree_alike t u h

  -- in both orders
  pub tree_equal : (t u : Tree K D) → IsCopy R (λ d g. g ≡ d) t u → (tree_eq C E F t u ≡ true) × (tree_eq C E F u t ≡ true)
  tree_equal t u h =
      let same = tree_alike t u h in
      (same, (tree_eq_laws C E F (partial_equiv_from_equiv c) e (partial_equiv_from_equiv f)).symm u t ∙ same)

  pub node_equal : (a b : Node K D) → NodeIsCopy R (λ d g. g ≡ d) a b → (node_eq C E F a b ≡ true) × (node_eq C E F b a ≡ true)
  node_equal a b h =
      let same = join (join (held_alike a.lt b.lt h.0) (r a.key b.key h.1)) (subst (λ v. F a.digest v ≡ true) (sym h.2) (f.refl a.digest)) in
      (same, (node_eq_laws C E F (partial_equiv_from_equiv c) e (partial_equiv_from_equiv f)).symm b a ∙ same)
