-- What an iteration over the page ranges of a tree has left.
use Rattle.std.specs.Prelude.{◌≡◌, ℕ, ◌+◌, ◌<◌, List, [], ◌++◌, Option, Some, None}
use Rattle.std.specs.List.{AllByRecursion}
use Rattle.std.specs.declared.cmp.Ordering.{Ordering}
use denote.Ref.{Bor}
use Rattle.merkle_tree_theory.specs.Tree.{Tree}
use Rattle.merkle_tree_theory.specs.Page.{level, pages_in_order, LevelsFall}
use Rattle.merkle_tree_theory.specs.CachedRanges.{HasRange}
use Rattle.merkle_search_tree.specs.Path.{pages_left, PathFits}
use Rattle.merkle_search_tree.specs.declared.path.Visit.{Visit}

module _ {K D : Type 0} where
  -- the pages that are left: that which comes next and those below it, and then those of the path
  abbrev pub pages_to_come : Option (Bor (Tree K D)) → List (Visit K D) → List (Tree K D)
  pages_to_come None vs = pages_left vs
  pages_to_come (Some t) vs = pages_in_order t.now ++ pages_left vs

  -- the path has room for the page that comes next and those below it; where none comes next, none is left
  abbrev pub NextFits : ℕ → ℕ → Option (Bor (Tree K D)) → List (Visit K D) → Type 0
  NextFits len capacity None vs = pages_left vs ≡ []
  NextFits len capacity (Some t) vs = LevelsFall t.now × (len + level t.now < capacity)

module _ {K D : Type 0} (cmp : K → K → Ordering) where
  -- `next` needs no memory, and each page that is left has a range
  pub record IsIteration (len capacity : ℕ) (next : Option (Bor (Tree K D))) (vs : List (Visit K D)) : Type 0 where
    pub path_fits : PathFits capacity 0 vs
    pub next_fits : NextFits len capacity next vs
    pub ranges : AllByRecursion (HasRange cmp) (pages_to_come next vs)
