-- Equality of pages and nodes has the laws that the equality of keys has.
use Rattle.std.specs.Prelude.{ℕ, Option, List, Bool, true, ◌&&◌}
use Rattle.std.specs.Cmp.{IsPartialEquivalence, IsEquivalence, nat_eq_equiv, partial_equiv_from_equiv, equiv}
use Rattle.std.proofs.Common.{◌≡◌, refl, ◌∙◌}
use Rattle.std.proofs.lemmas.Bool.{and_parts}
use Rattle.merkle_tree_theory.specs.Tree.{Tree, page, Row, high, node, Held, nothing, below}
use Rattle.merkle_tree_theory.specs.Equal.{tree_eq, row_eq, held_eq, node_eq}

both : {a b : Bool} → a && b ≡ true → (a ≡ true) × (b ≡ true)
both {a} {b} p = and_parts a b p

join : {a b : Bool} → a ≡ true → b ≡ true → a && b ≡ true
join p q = λ i. p i && q i

module _ {K D : Type 0} (C : Option (List ℕ) → Option (List ℕ) → Bool) (E : K → K → Bool) (F : D → D → Bool)
    (c : IsPartialEquivalence C) (e : IsPartialEquivalence E) (f : IsPartialEquivalence F) where
  mutual
    pub tree_symm : (x y : Tree K D) → tree_eq C E F x y ≡ tree_eq C E F y x
    tree_symm (page l c1 r) (page l' c' r') = λ i. (nat_eq_equiv.symm l l' i && c.symm c1 c' i) && row_symm r r' i

    pub row_symm : (x y : Row K D) → row_eq C E F x y ≡ row_eq C E F y x
    row_symm (high h) (high h') = held_symm h h'
    row_symm (high h) (node h' k' d' r') = refl
    row_symm (node h k d r) (high h') = refl
    row_symm (node h k d r) (node h' k' d' r') = λ i. ((held_symm h h' i && e.symm k k' i) && f.symm d d' i) && row_symm r r' i

    pub held_symm : (x y : Held K D) → held_eq C E F x y ≡ held_eq C E F y x
    held_symm nothing nothing = refl
    held_symm nothing (below t') = refl
    held_symm (below t) nothing = refl
    held_symm (below t) (below t') = tree_symm t t'

  mutual
    pub tree_trans : (x y z : Tree K D) → tree_eq C E F x y ≡ true → tree_eq C E F y z ≡ true → tree_eq C E F x z ≡ true
    tree_trans (page l c1 r) (page l' c' r') (page l'' c'' r'') p q =
        let a = both p in let b = both q in let a' = both a.0 in let b' = both b.0 in
        join (join (nat_eq_equiv.congr l l' l'' a'.0 ∙ b'.0) (c.trans c1 c' c'' a'.1 b'.1)) (row_trans r r' r'' a.1 b.1)

    pub row_trans : (x y z : Row K D) → row_eq C E F x y ≡ true → row_eq C E F y z ≡ true → row_eq C E F x z ≡ true
    row_trans (high h) (high h') (high h'') p q = held_trans h h' h'' p q
    row_trans (high h) (high h') (node h'' k d r) p q = absurd (cc)
    row_trans (high h) (node h' k d r) z p q = absurd (cc)
    row_trans (node h k d r) (high h') z p q = absurd (cc)
    row_trans (node h k d r) (node h' k' d' r') (high h'') p q = absurd (cc)
    row_trans (node h k d r) (node h' k' d' r') (node h'' k'' d'' r'') p q =
        let a = both p in let b = both q in let a' = both a.0 in let b' = both b.0 in let a'' = both a'.0 in let b'' = both b'.0 in
        join (join (join (held_trans h h' h'' a''.0 b''.0) (e.trans k k' k'' a''.1 b''.1)) (f.trans d d' d'' a'.1 b'.1)) (row_trans r r' r'' a.1 b.1)

    pub held_trans : (x y z : Held K D) → held_eq C E F x y ≡ true → held_eq C E F y z ≡ true → held_eq C E F x z ≡ true
    held_trans nothing nothing nothing p q = refl
    held_trans nothing nothing (below t) p q = absurd (cc)
    held_trans nothing (below t) z p q = absurd (cc)
    held_trans (below t) nothing z p q = absurd (cc)
    held_trans (below t) (below t') nothing p q = absurd (cc)
    held_trans (below t) (below t') (below t'') p q = tree_trans t t' t'' p q

  pub tree_eq_laws : IsPartialEquivalence (tree_eq C E F)
  tree_eq_laws = record { symm = tree_symm; trans = tree_trans }

  pub node_eq_laws : IsPartialEquivalence (node_eq C E F)
  node_eq_laws = record {
    symm = λ x y i. (held_symm x.lt y.lt i && e.symm x.key y.key i) && f.symm x.digest y.digest i;
    trans = λ x y z p q.
        let a = both p in let b = both q in let a' = both a.0 in let b' = both b.0 in
        join (join (held_trans x.lt y.lt z.lt a'.0 b'.0) (e.trans x.key y.key z.key a'.1 b'.1)) (f.trans x.digest y.digest z.digest a.1 b.1);
  }

module _ {K D : Type 0} (C : Option (List ℕ) → Option (List ℕ) → Bool) (E : K → K → Bool) (F : D → D → Bool) (c : IsEquivalence C) (e : IsEquivalence E) (f : IsEquivalence F) where
  mutual
    tree_refl : (x : Tree K D) → tree_eq C E F x x ≡ true
    tree_refl (page l c1 r) = join (join (nat_eq_equiv.refl l) (c.refl c1)) (row_refl r)

    row_refl : (x : Row K D) → row_eq C E F x x ≡ true
    row_refl (high h) = held_refl h
    row_refl (node h k d r) = join (join (join (held_refl h) (e.refl k)) (f.refl d)) (row_refl r)

    held_refl : (x : Held K D) → held_eq C E F x x ≡ true
    held_refl nothing = refl
    held_refl (below t) = tree_refl t

  pub tree_eq_equivalence : IsEquivalence (tree_eq C E F)
  tree_eq_equivalence =
      equiv (tree_eq_laws C E F (partial_equiv_from_equiv c) (partial_equiv_from_equiv e) (partial_equiv_from_equiv f)) tree_refl

  pub node_eq_equivalence : IsEquivalence (node_eq C E F)
  node_eq_equivalence =
      equiv (node_eq_laws C E F (partial_equiv_from_equiv c) (partial_equiv_from_equiv e) (partial_equiv_from_equiv f))
      (λ x. join (join (held_refl x.lt) (e.refl x.key)) (f.refl x.digest))
