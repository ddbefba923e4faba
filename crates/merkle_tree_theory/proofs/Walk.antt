-- A function of a row that goes along its nodes in search of a key, and what it is at the key's place.
use Rattle.std.proofs.Common.{◌≡◌, ◌≢◌, ℕ, zero, suc, ◌<◌, List, [], ◌∷◌, length, get_or, Bool, true, false, if◌then◌else◌, refl, ap, sym, ◌∙◌, arith}
use Rattle.std.specs.declared.cmp.Ordering.{Ordering}
use Rattle.std.specs.declared.cmp.Ordering.TheVariants.{Less, Equal, Greater}
use Rattle.std.specs.Ordering.{is_gt, match_ordering}
use Rattle.merkle_tree_theory.specs.Tree.{Row, high, node, Held, Node, row}
use Rattle.merkle_tree_theory.specs.Upsert.{place}

-- f goes along the nodes: it is `less` at a node whose key is above the key, `equal` at one with the key, and after any other it goes on
pub record IsWalk {K D R : Type 0} (cmp : K → K → Ordering) (k : K) (f : Row K D → R) : Type 0 where
  pub less : Node K D → Row K D → R
  pub equal : Node K D → Row K D → R
  pub step : Node K D → R → R
  pub walks : (e : Node K D) (r : Row K D) → f (node e.lt e.key e.digest r) ≡ match_ordering (cmp k e.key) (less e r) (equal e r) (step e (f r))

stops : (b : Bool) (n : ℕ) → 0 ≡ (if b then (suc n) else 0) → b ≡ false
stops true n p = absurd (omega arith)
stops false n p = refl

goes_on : (o : Ordering) (j n : ℕ) → suc j ≡ (if (is_gt o) then (suc n) else 0) → (o ≡ Greater) × (j ≡ n)
goes_on Less j n p = absurd (omega arith)
goes_on Equal j n p = absurd (omega arith)
goes_on Greater j n p = (refl, omega arith)

module _ {K D R : Type 0} {cmp : K → K → Ordering} {k : K} {f : Row K D → R} (w : IsWalk cmp k f) (h : Held K D) where
  abbrev at_node : Ordering → Node K D → List (Node K D) → R
  at_node o e es = match_ordering o (w.less e (row es h)) (w.equal e (row es h)) (w.step e (f (row es h)))

  -- f is g of the place and the nodes, where it is so at the key's place, and g goes along the nodes as f does
  module _ (g : ℕ → List (Node K D) → R) (on : (j : ℕ) (e : Node K D) (es : List (Node K D)) → w.step e (g j es) ≡ g (suc j) (e ∷ es)) where
    walk_to : (Is : Ordering → Type 0) → ((o : Ordering) (e : Node K D) (es : List (Node K D)) → is_gt o ≡ false → Is o → at_node o e es ≡ g 0 (e ∷ es))
        → (es : List (Node K D)) (i : ℕ) (x : Node K D) → i ≡ place cmp k es → i < length es → Is (cmp k (get_or es i x).key) → f (row es h) ≡ g i es
    walk_to Is here [] i x p r a = absurd (omega arith)
    walk_to Is here (e ∷ es) zero x p r a = w.walks e (row es h) ∙ here (cmp k e.key) e es (stops (is_gt (cmp k e.key)) (place cmp k es) p) a
    walk_to Is here (e ∷ es) (suc j) x p r a =
        let past = goes_on (cmp k e.key) j (place cmp k es) p in
        w.walks e (row es h) ∙ ap (λ o. at_node o e es) past.0 ∙ ap (w.step e) (walk_to Is here es j x past.1 (omega arith) a) ∙ on j e es

    pub walk_gap : ((e : Node K D) (es : List (Node K D)) → w.less e (row es h) ≡ g 0 (e ∷ es))
        → (es : List (Node K D)) (i : ℕ) (x : Node K D) → i ≡ place cmp k es → i < length es → cmp k (get_or es i x).key ≢ Equal → f (row es h) ≡ g i es
    walk_gap here = walk_to (λ o. o ≢ Equal) by
      where
        by : (o : Ordering) (e : Node K D) (es : List (Node K D)) → is_gt o ≡ false → o ≢ Equal → at_node o e es ≡ g 0 (e ∷ es)
        by Less e es s other = here e es
        by Equal e es s other = absurd (other refl)
        by Greater e es s other = absurd (cc)

    pub walk_key : ((e : Node K D) (es : List (Node K D)) → w.equal e (row es h) ≡ g 0 (e ∷ es))
        → (es : List (Node K D)) (i : ℕ) (x : Node K D) → i ≡ place cmp k es → i < length es → cmp k (get_or es i x).key ≡ Equal → f (row es h) ≡ g i es
    walk_key here = walk_to (λ o. o ≡ Equal) (λ o e es s same. ap (λ q. at_node q e es) same ∙ here e es)

  -- above all nodes
  pub walk_high : (g : List (Node K D) → R) → ((e : Node K D) (es : List (Node K D)) → w.step e (g es) ≡ g (e ∷ es)) → f (high h) ≡ g []
      → (es : List (Node K D)) → place cmp k es ≡ length es → f (row es h) ≡ g es
  walk_high g on here [] p = here
  walk_high g on here (e ∷ es) p =
      let past = goes_on (cmp k e.key) (length es) (place cmp k es) (sym p) in
      w.walks e (row es h) ∙ ap (λ o. at_node o e es) past.0 ∙ ap (w.step e) (walk_high g on here es (sym past.1)) ∙ on e es
