-- How deep a canonical tree is.
use Rattle.std.proofs.Common.{ℕ, suc, ◌+◌, ◌<◌, ◌≤◌, arith}
use Rattle.merkle_tree_theory.specs.Tree.{Tree, page, Row, high, node, Held, nothing, below}
use Rattle.merkle_tree_theory.specs.Page.{level}
use Rattle.merkle_tree_theory.specs.Canonical.{IsCanonical, IsRow, IsGap, IsCanonicalRoot}
use Rattle.merkle_tree_theory.specs.Depth.{depth, row_depth, held_depth}

module _ {K D : Type 0} (lev : K → ℕ) where
  mutual
    page_depth : (t : Tree K D) → IsCanonical lev t → depth t ≤ suc (level t)
    page_depth (page l c r) i = omega (arith, rows_depth l r i)

    rows_depth : (l : ℕ) (r : Row K D) → IsRow lev l r → row_depth r ≤ l
    rows_depth l (high h) i = gap_depth l h i
    rows_depth l (node h k d r) i = omega (arith, gap_depth l h i.0, rows_depth l r i.2)

    gap_depth : (l : ℕ) (h : Held K D) → IsGap lev l h → held_depth h ≤ l
    gap_depth l nothing i = omega arith
    gap_depth l (below t) i = omega (arith, page_depth t i.2, i.0)

  -- a tree is no deeper than its root's level and one page more
  pub root_depth : (t : Tree K D) → IsCanonicalRoot lev t → depth t ≤ level t + 1
  root_depth (page l c (high nothing)) i = omega arith
  root_depth (page l c (high (below t))) i = absurd i
  root_depth (page l c (node h k d r)) i = omega (arith, rows_depth l (node h k d r) i)

  -- and the root's level is below any number that the levels of its keys are below
  root_low : (n : ℕ) → ((k : K) → lev k < n) → (t : Tree K D) → IsCanonicalRoot lev t → (0 < n) → level t < n
  root_low n low (page l c (high nothing)) i z = omega (arith, i)
  root_low n low (page l c (high (below t))) i z = absurd i
  root_low n low (page l c (node h k d r)) i z = omega (arith, low k, i.1)

  -- where no level is above 255, a tree is at most 256 pages deep
  pub root_deepest : ((k : K) → lev k < 256) → (t : Tree K D) → IsCanonicalRoot lev t → depth t ≤ 256
  root_deepest low t i = omega (arith, root_depth t i, root_low 256 low t i (omega arith))
