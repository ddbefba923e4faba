-- Pages that are the same apart from caches have the same empty gaps.
use Rattle.std.proofs.Common.{◌⊎◌, inl, inr, sym, ◌∙◌}
use Rattle.std.specs.Cmp.{IsTotalOrder, alike_right}
use Rattle.std.specs.declared.cmp.Ordering.{Ordering}
use Rattle.merkle_tree_theory.specs.Canonical.{SamePages, SameRow, SameHeld}
use Rattle.merkle_tree_theory.specs.Remove.{IsNothing, BeginsFree, HasFreeGap, RowHasFreeGap, HeldHasFreeGap}
use Rattle.merkle_tree_theory.specs.Tree.{Tree, page, Row, high, node, Held, nothing, below}

module _ {K D : Type 0} (cmp : K → K → Ordering) where
  nothing_alike : (h g : Held K D) → SameHeld cmp h g → IsNothing g → IsNothing h
  nothing_alike nothing nothing s n = tt
  nothing_alike nothing (below u) s n = absurd s
  nothing_alike (below t) nothing s n = absurd s
  nothing_alike (below t) (below u) s n = absurd n

  begins_alike : (r q : Row K D) → SameRow cmp r q → BeginsFree q → BeginsFree r
  begins_alike (high h) (high g) s n = nothing_alike h g s n
  begins_alike (high h) (node g x d q) s n = absurd s
  begins_alike (node h y e r) (high g) s n = absurd s
  begins_alike (node h y e r) (node g x d q) s n = nothing_alike h g s.0 n

  beside_alike : (h g : Held K D) (r q : Row K D) → SameHeld cmp h g → SameRow cmp r q → IsNothing g ⊎ BeginsFree q → IsNothing h ⊎ BeginsFree r
  beside_alike h g r q s t (inl n) = inl (nothing_alike h g s n)
  beside_alike h g r q s t (inr n) = inr (begins_alike r q t n)

module _ {K D : Type 0} (cmp : K → K → Ordering) (o : IsTotalOrder cmp) (k : K) where
  mutual
    pub free_alike : (t u : Tree K D) → SamePages cmp t u → HasFreeGap cmp k u → HasFreeGap cmp k t
    free_alike (page l c r) (page m d q) s f = row_free r q s.2 f

    row_free : (r q : Row K D) → SameRow cmp r q → RowHasFreeGap cmp k q → RowHasFreeGap cmp k r
    row_free (high h) (high g) s f = held_free h g s f
    row_free (high h) (node g x d q) s f = absurd s
    row_free (node h y e r) (high g) s f = absurd s
    row_free (node h y e r) (node g x d q) s f =
        (held_free h g s.0 f.0, (λ at. beside_alike cmp h g r q s.0 s.3 (f.1 (sym (alike_right o y x k s.1) ∙ at))), row_free r q s.3 f.2)

    held_free : (h g : Held K D) → SameHeld cmp h g → HeldHasFreeGap cmp k g → HeldHasFreeGap cmp k h
    held_free nothing nothing s f = tt
    held_free nothing (below u) s f = absurd s
    held_free (below t) nothing s f = absurd s
    held_free (below t) (below u) s f = free_alike t u s f
