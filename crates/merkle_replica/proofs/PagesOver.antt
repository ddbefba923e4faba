-- The pages over a gap in trees of the same pages are the same, and have one digest.
use Rattle.std.specs.Prelude.{⊤, nat_eq}
use Rattle.std.proofs.Common.{◌≡◌, ℕ, Bool, true, false, List, Option, Some, None, if◌then◌else◌, refl, ap, subst}
use Rattle.std.specs.Cmp.{IsTotalOrder, alike_right}
use Rattle.std.specs.Cmp.Lexicographic.{pointwise}
use Rattle.std.specs.Ordering.{is_lt}
use Rattle.std.specs.declared.cmp.Ordering.{Ordering}
use Rattle.key_order.specs.Order.{Same}
use Rattle.merkle_search_tree.specs.WhereHashed.{is_page_with}
use Rattle.merkle_tree_theory.specs.Canonical.{SamePages, SameRow, SameHeld}
use Rattle.merkle_tree_theory.specs.Gap.{Gap, is_after, is_before}
use Rattle.merkle_tree_theory.specs.Lookup.{page_over, row_over, held_over}
use Rattle.merkle_tree_theory.specs.Stream.{page_digest}
use Rattle.merkle_tree_theory.specs.Tree.{Tree, page, Row, high, node, Held, nothing, below}
use Rattle.merkle_tree_theory.specs.declared.page_format.PageFormat.{PageFormat}

module _ {K : Type 0} (cmp : K → K → Ordering) (o : IsTotalOrder cmp) (g : Gap K) where
  -- pages that are both absent, or the same
  abbrev SameFound : Option (Tree K (List ℕ)) → Option (Tree K (List ℕ)) → Type 0
  SameFound None None = ⊤
  SameFound None (Some u) = ⊥
  SameFound (Some t) None = ⊥
  SameFound (Some t) (Some u) = SamePages cmp t u

  after-same : (a : Option K) (k j : K) → Same cmp k j → is_after cmp a k ≡ is_after cmp a j
  after-same None k j s = refl
  after-same (Some a) k j s = ap is_lt (alike_right o k j a s)

  before-same : (b : Option K) (k j : K) → Same cmp k j → is_before cmp b k ≡ is_before cmp b j
  before-same None k j s = refl
  before-same (Some b) k j s = ap is_lt (o.congr k j b s)

  mutual
    over-same : (t u : Tree K (List ℕ)) → SamePages cmp t u → SameFound (page_over cmp g t) (page_over cmp g u)
    over-same (page l c r) (page m e s) q = row_over-same (page l c r) (page m e s) r s q q.2

    row_over-same : (t u : Tree K (List ℕ)) (r s : Row K (List ℕ)) → SamePages cmp t u → SameRow cmp r s → SameFound (row_over cmp g t r) (row_over cmp g u s)
    row_over-same t u (high h) (high i) q p = held_over-same h i p
    row_over-same t u (high h) (node i j e s) q p = absurd p
    row_over-same t u (node h k d r) (high i) q p = absurd p
    row_over-same t u (node h k d r) (node i j e s) q p =
        subst (λ b. SameFound (row_over cmp g t (node h k d r))
        (if b then (if (is_before cmp g.before j) then (Some u) else (held_over cmp g i)) else (row_over cmp g u s))) (after-same g.after k j p.1)
        (subst (λ c. SameFound (row_over cmp g t (node h k d r))
        (if (is_after cmp g.after k) then (if c then (Some u) else (held_over cmp g i)) else (row_over cmp g u s))) (before-same g.before k j p.1)
        (by (is_after cmp g.after k) (is_before cmp g.before k) (held_over-same h i p.0) (row_over-same t u r s q p.3)))
      where
        by : (a b : Bool) → SameFound (held_over cmp g h) (held_over cmp g i) → SameFound (row_over cmp g t r) (row_over cmp g u s)
            → SameFound (if a then (if b then (Some t) else (held_over cmp g h)) else (row_over cmp g t r)) (if a then (if b then (Some u) else (held_over cmp g i)) else (row_over cmp g u s))
        by true true f m = q
        by true false f m = f
        by false b f m = m

    held_over-same : (h i : Held K (List ℕ)) → SameHeld cmp h i → SameFound (held_over cmp g h) (held_over cmp g i)
    held_over-same nothing nothing q = tt
    held_over-same nothing (below u) q = absurd q
    held_over-same (below t) nothing q = absurd q
    held_over-same (below t) (below u) q = over-same t u q

  pub page_with-same : (format : PageFormat) (bytes_of : K → List ℕ)
      → ((t u : Tree K (List ℕ)) → SamePages cmp t u → page_digest format bytes_of t ≡ page_digest format bytes_of u) → (d : List ℕ) (t u : Tree K (List ℕ)) → SamePages cmp t u
      → is_page_with format bytes_of d (page_over cmp g t) ≡ is_page_with format bytes_of d (page_over cmp g u)
  page_with-same format bytes_of one_digest d t u q = by (page_over cmp g t) (page_over cmp g u) (over-same t u q)
    where
      by : (x y : Option (Tree K (List ℕ))) → SameFound x y → is_page_with format bytes_of d x ≡ is_page_with format bytes_of d y
      by None None f = refl
      by None (Some v) f = absurd f
      by (Some s) None f = absurd f
      by (Some s) (Some v) f = ap (λ e. pointwise nat_eq e d) (one_digest s v f)
