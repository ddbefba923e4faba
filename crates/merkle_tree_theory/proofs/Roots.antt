-- The root page that a gap leaves.
use Rattle.std.proofs.Common.{◌≡◌, ℕ, refl}
use Rattle.merkle_tree_theory.specs.Tree.{page, high, node, Held, nothing, below}
use Rattle.merkle_tree_theory.specs.Page.{pairs, held_pairs}
use Rattle.merkle_tree_theory.specs.Canonical.{IsGap, IsCanonicalRoot}
use Rattle.merkle_tree_theory.specs.TreeOf.{root_of}

module _ {K D : Type 0} where
  pub root-pairs : (h : Held K D) → pairs (root_of h) ≡ held_pairs h
  root-pairs nothing = refl
  root-pairs (below t) = refl

  pub root-canonical : (lev : K → ℕ) (m : ℕ) (h : Held K D) → IsGap lev m h → IsCanonicalRoot lev (root_of h)
  root-canonical lev m nothing g = refl
  root-canonical lev m (below (page l c (high h))) g = absurd g.1
  root-canonical lev m (below (page l c (node h k d r))) g = g.2
