-- The page over a gap, as a table of cells and the tables of its map tell it.
use Rattle.std.specs.Prelude.{◌≡◌, ℕ, Bool, false, List, [], ◌∷◌, Option, Some, None, if◌then◌else◌, string_bytes}
use Rattle.key_order.specs.Text.{Text}
use Rattle.merkle_tree_theory.specs.Gap.{Gap, is_after, is_before}
use Rattle.merkle_tree_theory.specs.Lookup.{page_over}
use Rattle.merkle_tree_theory.specs.Tree.{Tree, below}
use Rattle.merkle_tree_theory.specs.TreeOf.{tree_of}
use Rattle.sqlite_value.specs.Order.{Row}
use Rattle.store_tree.specs.Cells.{bytes_order, KeyDigests, HoldsCells, held_within}
use Rattle.store_tree.specs.Pages.{TellsNodes}
use Rattle.store_tree.specs.Places.{LeadsTo, gap_at}
use Rattle.store_tree.specs.Rows.{bound_bytes}
use Rattle.store_tree.specs.declared.over.PageOver.{PageOver}
use Rattle.store_tree.specs.declared.place.Place.{Place}

-- whether the first pair above where the gap begins is in it
abbrev pub is_first_in : Gap (List ℕ) → List (Text × List ℕ) → Bool
is_first_in g [] = false
is_first_in g (p ∷ ps) = if (is_after bytes_order g.after (string_bytes p.0)) then (is_before bytes_order g.before (string_bytes p.0)) else (is_first_in g ps)

module _ (lev : List ℕ → ℕ) (m : KeyDigests) (g : Gap (List ℕ)) where
  -- this is the page over the gap, by its nodes and what is between them, or there is none
  abbrev pub TellsOver : Option PageOver → Type 0
  TellsOver None = page_over bytes_order g (tree_of lev m) ≡ None
  TellsOver (Some o) = (t : Tree (List ℕ) (List ℕ)) × (page_over bytes_order g (tree_of lev m) ≡ Some t) × (held_within lev m (gap_at o.place) ≡ below t)
      × TellsNodes lev m o.level (bound_bytes o.place.front) (bound_bytes o.place.before) o.page.nodes.items o.page.last

-- of whatever map that is held the rows are the gaps, they stay those, and this is the page over the gap
abbrev pub FindsOver : (KeyDigests → Type 0) → Gap (List ℕ) → List Row → List Row → Option PageOver → Type 0
FindsOver Holds g old new found = (lev : List ℕ → ℕ) (m : KeyDigests) → HoldsCells lev m old → Holds m → HoldsCells lev m new × TellsOver lev m g found

-- the same, where over the gap there is what is over it in what stands in a place of level 1
abbrev pub FindsLeaf : (KeyDigests → Type 0) → Gap (List ℕ) → List Row → List Row → Place → Option PageOver → Type 0
FindsLeaf Holds g old new place found = (lev : List ℕ → ℕ) (m : KeyDigests) (h : HoldsCells lev m old) → Holds m → place.level ≡ 1 → LeadsTo lev m g h.top place → HoldsCells lev m new
    × TellsOver lev m g found
