-- Gaps with equal bounds: they are so in turn, and the same page is over them.
use Rattle.std.proofs.Common.{◌≡◌, Option, Some, None, if◌then◌else◌, refl, ◌∙◌}
use Rattle.std.specs.Cmp.{IsTotalOrder, tied_itself, tied_back}
use Rattle.std.specs.declared.cmp.Ordering.{Ordering}
use Rattle.merkle_tree_theory.specs.Gap.{Gap, SameBound, SameGap}
use Rattle.merkle_tree_theory.specs.Lookup.{page_over, row_over, held_over}
use Rattle.merkle_tree_theory.specs.Tree.{Tree, page, Row, high, node, Held, nothing, below}
use Rattle.merkle_tree_theory.proofs.InGaps.{is_after-alike, is_before-alike}

module _ {K : Type 0} (cmp : K → K → Ordering) (o : IsTotalOrder cmp) where
  same_bound-own : (a : Option K) → SameBound cmp a a
  same_bound-own None = tt
  same_bound-own (Some a) = tied_itself o a

  same_bound-back : (a b : Option K) → SameBound cmp a b → SameBound cmp b a
  same_bound-back None None s = tt
  same_bound-back None (Some b) s = absurd s
  same_bound-back (Some a) None s = absurd s
  same_bound-back (Some a) (Some b) s = tied_back o a b s

  same_bound-trans : (a b c : Option K) → SameBound cmp a b → SameBound cmp b c → SameBound cmp a c
  same_bound-trans None None c s t = t
  same_bound-trans None (Some b) c s t = absurd s
  same_bound-trans (Some a) None c s t = absurd s
  same_bound-trans (Some a) (Some b) None s t = absurd t
  same_bound-trans (Some a) (Some b) (Some c) s t = o.congr a b c s ∙ t

  pub same_gap-own : (g : Gap K) → SameGap cmp g g
  same_gap-own g = (same_bound-own g.after, same_bound-own g.before)

  pub same_gap-back : (g h : Gap K) → SameGap cmp g h → SameGap cmp h g
  same_gap-back g h s = (same_bound-back g.after h.after s.0, same_bound-back g.before h.before s.1)

  pub same_gap-trans : (g h i : Gap K) → SameGap cmp g h → SameGap cmp h i → SameGap cmp g i
  same_gap-trans g h i s t = (same_bound-trans g.after h.after i.after s.0 t.0, same_bound-trans g.before h.before i.before s.1 t.1)

module _ {K D : Type 0} (cmp : K → K → Ordering) (o : IsTotalOrder cmp) (g h : Gap K) (same : SameGap cmp g h) where
  mutual
    -- the same page is over gaps with equal bounds
    pub page_over-alike : (t : Tree K D) → page_over cmp g t ≡ page_over cmp h t
    page_over-alike (page l c r) = row_over-alike (page l c r) r

    row_over-alike : (t : Tree K D) (r : Row K D) → row_over cmp g t r ≡ row_over cmp h t r
    row_over-alike t (high q) = held_over-alike q
    row_over-alike t (node q k d r) = λ i.
        if (is_after-alike cmp o g.after h.after same.0 k i) then (if (is_before-alike cmp o g.before h.before same.1 k i) then (Some t) else (held_over-alike q i)) else (row_over-alike t r i)

    held_over-alike : (q : Held K D) → held_over cmp g q ≡ held_over cmp h q
    held_over-alike nothing = refl
    held_over-alike (below t) = page_over-alike t
