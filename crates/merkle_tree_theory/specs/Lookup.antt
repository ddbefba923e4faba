-- The page over a gap, and the page that fills one.
use Rattle.std.specs.Prelude.{◌≡◌, ℕ, zero, suc, List, [], ◌∷◌, Option, Some, None, if◌then◌else◌}
use Rattle.std.specs.declared.cmp.Ordering.{Ordering}
use Rattle.key_order.specs.Map.{IsMap, get}
use Rattle.merkle_tree_theory.specs.Canonical.{HasNode}
use Rattle.merkle_tree_theory.specs.Gap.{Gap, IsInGap, is_after, is_before, pairs_within}
use Rattle.merkle_tree_theory.specs.Tree.{Tree, page, Row, high, node, Held, nothing, below, Node}
use Rattle.merkle_tree_theory.specs.Page.{pairs}
use Rattle.merkle_tree_theory.specs.Ranges.{IsPageIn}

module _ {K D : Type 0} (cmp : K → K → Ordering) where
  -- the place of the first node above the bound, or the number of nodes
  abbrev pub place_after : Option K → List (Node K D) → ℕ
  place_after after [] = 0
  place_after after (e ∷ es) = if (is_after cmp after e.key) then 0 else (suc (place_after after es))

  abbrev mutual
    -- the page with a node in the gap: this page, or one of those below it, of which the one is looked at that may have keys in the gap
    pub page_over : Gap K → Tree K D → Option (Tree K D)
    page_over g (page l c r) = row_over g (page l c r) r

    pub row_over : Gap K → Tree K D → Row K D → Option (Tree K D)
    row_over g t (high h) = held_over g h
    row_over g t (node h k d r) = if (is_after cmp g.after k) then (if (is_before cmp g.before k) then (Some t) else (held_over g h)) else (row_over g t r)

    pub held_over : Gap K → Held K D → Option (Tree K D)
    held_over g nothing = None
    held_over g (below t) = page_over g t

  -- `page` is of the tree `whole`, has a node, and its keys are all that the tree has in the gap
  pub record Fills (g : Gap K) (page whole : Tree K D) : Type 0 where
    pub inside : IsPageIn page whole
    pub some : HasNode page
    pub all : pairs_within cmp g (pairs whole) ≡ pairs page

module _ {K : Type 0} (cmp : K → K → Ordering) where
  -- over a gap that a page of a tree fills, that page is opened
  abbrev pub FilledGapsOpen : Type 0
  FilledGapsOpen = (t s : Tree K (List ℕ)) (gap : Gap K) → IsMap cmp (pairs t) → Fills cmp gap s t → page_over cmp gap t ≡ Some s

  -- a page has what the tree has in the gap that it fills
  abbrev pub PagesHaveTheirGaps : Type 0
  PagesHaveTheirGaps =
      (t s : Tree K (List ℕ)) (gap : Gap K) (k : K) (d : List ℕ) → IsMap cmp (pairs t) → Fills cmp gap s t
      → IsInGap cmp k gap → get cmp (pairs t) k ≡ Some d → get cmp (pairs s) k ≡ Some d

  -- a tree has what a page of it has
  abbrev pub TreesHaveTheirPages : Type 0
  TreesHaveTheirPages =
      (t s : Tree K (List ℕ)) (k : K) (d : List ℕ) → IsMap cmp (pairs t) → IsPageIn s t → get cmp (pairs s) k ≡ Some d → get cmp (pairs t) k ≡ Some d
