-- The codes of pages, by which a proof tells them apart.
use Rattle.std.specs.Prelude.{◌≡◌, ℕ, List, Option, refl}
use Rattle.std.proofs.Common.{ap, sym, subst}
use Rattle.std.specs.Coded.{Coded, coded_ℕ, coded_list, coded_option, coded×, code_by}
use base.Stored.{Gv, gnil, gnum, gcons}
use Rattle.merkle_tree_theory.specs.Tree.{Tree, page, Row, high, node, Held, nothing, below, Node}

abbrev first : Gv → Gv
first gnil = gnil
first (gnum n) = gnil
first (gcons a b) = a

abbrev rest : Gv → Gv
rest gnil = gnil
rest (gnum n) = gnil
rest (gcons a b) = b

abbrev IsPair : Gv → Type 0
IsPair gnil = ⊥
IsPair (gnum n) = ⊥
IsPair (gcons a b) = Unit {0}

abbrev cache_code : Coded (Option (List ℕ))
cache_code = coded_option (coded_list coded_ℕ)

module _ {K D : Type 0} (k : Coded K) (d : Coded D) where
  abbrev mutual
    pub code_t : Tree K D → Gv
    code_t (page l c r) = gcons (gnum l) (gcons (cache_code.code c) (code_r r))

    pub code_r : Row K D → Gv
    code_r (high h) = gcons gnil (code_h h)
    code_r (node h x y r) = gcons (gcons (code_h h) (gcons (k.code x) (d.code y))) (code_r r)

    pub code_h : Held K D → Gv
    code_h nothing = gnil
    code_h (below t) = gcons gnil (code_t t)

  mutual
    pub inj_t : (x y : Tree K D) → code_t x ≡ code_t y → x ≡ y
    inj_t (page l c r) (page l' c' r') p = λ i. page (coded_ℕ.inj l l' (ap first p) i) (cache_code.inj c c' (ap (λ g. first (rest g)) p) i) (inj_r r r' (ap (λ g. rest (rest g)) p) i)

    pub inj_r : (x y : Row K D) → code_r x ≡ code_r y → x ≡ y
    inj_r (high h) (high h') p = ap high (inj_h h h' (ap rest p))
    inj_r (high h) (node h' x' y' r') p = absurd (subst (λ g. IsPair (first g)) (sym p) tt)
    inj_r (node h x y r) (high h') p = absurd (subst (λ g. IsPair (first g)) p tt)
    inj_r (node h x y r) (node h' x' y' r') p =
        λ i. node (inj_h h h' (ap (λ g. first (first g)) p) i) (k.inj x x' (ap (λ g. first (rest (first g))) p) i)
        (d.inj y y' (ap (λ g. rest (rest (first g))) p) i) (inj_r r r' (ap rest p) i)

    pub inj_h : (x y : Held K D) → code_h x ≡ code_h y → x ≡ y
    inj_h nothing nothing p = refl
    inj_h nothing (below t) p = absurd (subst IsPair (sym p) tt)
    inj_h (below t) nothing p = absurd (subst IsPair p tt)
    inj_h (below t) (below t') p = ap below (inj_t t t' (ap rest p))

  abbrev pub tree_code : Coded (Tree K D)
  tree_code = record { code = code_t; inj = inj_t }

  abbrev pub held_code : Coded (Held K D)
  held_code = record { code = code_h; inj = inj_h }

  abbrev pub node_code : Coded (Node K D)
  node_code = code_by (Held K D × (K × D)) (coded× held_code (coded× k d)) (λ e. (e.lt, (e.key, e.digest))) (λ p. record { lt = p.0; key = p.1.0; digest = p.1.1 }) (λ _. refl)
