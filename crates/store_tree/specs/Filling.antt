-- What filling in what isn't known makes of a table of cells, of whatever map it has the gaps.
use Rattle.std.specs.Prelude.{◌≡◌, ◌≢◌, ℕ, suc, ◌≤◌, List, ◌∷◌, map, Option, Some, None, string_bytes}
use Rattle.std.specs.List.{AllByRecursion}
use Rattle.key_order.specs.Map.{get}
use Rattle.merkle_tree_theory.specs.Gap.{Gap, everywhere, pairs_within}
use Rattle.sqlite_trees.specs.Tree.{Trees}
use Rattle.sqlite_value.specs.Order.{Row}
use Rattle.store_file.specs.declared.catalog.TheConstants.{CELLS}
use Rattle.store_tree.specs.Cells.{bytes_order, KeyDigests, AreUnder, HoldsCells, IsBoundAt, IsGapOf, IsProper, Knows, held_within, pairs_from}
use Rattle.store_tree.specs.Pages.{TellsNodes, Tells, gap_between}
use Rattle.store_tree.specs.Rows.{bound_bytes, row_of_cell, rows_between, with_known}
use Rattle.store_tree.specs.declared.cell.Cell.{Cell}
use Rattle.store_tree.specs.declared.cell.Known.{Known}
use Rattle.store_tree.specs.declared.cell.Known.TheVariants.{Unknown}
use Rattle.store_tree.specs.declared.page.Node.{Node}
use Rattle.store_tree.specs.declared.page.Page.{Page}

-- what is known, if anything is
abbrev pub IsAllKnown : Known → Option Known → Type 0
IsAllKnown known None = known ≡ Unknown
IsAllKnown known (Some k) = (known ≡ k) × (k ≢ Unknown)

-- the first cell of a scan gets something else known
abbrev pub Keeps : ℕ → Option (List ℕ) → Option (List ℕ) → Known → List Row → List Row → Type 0
Keeps level front before known old new = (c : Cell) × (more : List Row) × (rows_between level front before old ≡ row_of_cell c ∷ more) × (new ≡ with_known c known old)

-- the cell's front
abbrev pub front_of : Cell → Option (List ℕ)
front_of c = bound_bytes c.front

-- the node has this front as its key, with the digest of its value, and this before it
pub record IsNodeAt (Holds : KeyDigests → Type 0) (known : Known) (front : Option (List ℕ)) (node : Node) : Type 0 where
  pub key : front ≡ Some (string_bytes node.key)
  pub before : node.before ≡ known
  pub digest : (m : KeyDigests) → Holds m → get bytes_order m (string_bytes node.key) ≡ Some node.digest

module _ (lev : List ℕ → ℕ) (m : KeyDigests) (level : ℕ) where
  -- these are the cells of a level from a front on and below a bound, whose keys are on the level or below it, and what they know is true
  pub record AreScanned (front before : Option (List ℕ)) (cells : List Cell) : Type 0 where
    pub fronts : map front_of cells ≡ front ∷ map (λ p. Some p.0) (pairs_within bytes_order (gap_between front before) (pairs_from lev m level))
    pub right : AllByRecursion (λ c. Knows lev m level c.known (front_of c)) cells
    pub begins : IsBoundAt lev m level front
    pub ends : IsBoundAt lev m level before
    pub proper : IsProper front before
    pub upto : AreUnder lev (suc level) (pairs_within bytes_order (gap_between front before) m)

module _ (Holds : KeyDigests → Type 0) (old new : List Row) where
  -- where the rows were the gaps of a map that is held, with this level, and it is so of the map, they still are, and this is then so too
  abbrev pub FillsWhere : ℕ → ((List ℕ → ℕ) → KeyDigests → Type 0) → ((List ℕ → ℕ) → KeyDigests → Type 0) → Type 0
  FillsWhere level If Then = (lev : List ℕ → ℕ) (m : KeyDigests) (h : HoldsCells lev m old) → Holds m → 1 ≤ level → level ≤ h.top → If lev m
      → (now : HoldsCells lev m new) × (now.top ≡ h.top) × Then lev m

  -- all that stands in the gap of a cell is known
  abbrev pub FillsCell : ℕ → Cell → Option (List ℕ) → Known → Type 0
  FillsCell level c before known = FillsWhere level (λ lev m. IsGapOf lev m level (front_of c) (gap_between (front_of c) before) × Knows lev m level c.known (front_of c))
      (λ lev m. Tells known (held_within lev m (gap_between (front_of c) before)))

  -- these are the nodes of a page in a gap of the level above
  abbrev pub FillsPage : ℕ → Option (List ℕ) → Option (List ℕ) → Page → Type 0
  FillsPage level front before page =
      FillsWhere (suc level) (λ lev m. IsGapOf lev m (suc level) front (gap_between front before)) (λ lev m. TellsNodes lev m level front before page.nodes.items page.last)

  -- these are the nodes of the cells of a scan
  abbrev pub FillsNodes : ℕ → List Cell → Option (List ℕ) → Page → Type 0
  FillsNodes level cells before page = (front : Option (List ℕ))
      → FillsWhere level (λ lev m. AreScanned lev m level front before cells) (λ lev m. TellsNodes lev m level front before page.nodes.items page.last)

  -- the rows stay the gaps of the map, and this is known of the whole map
  abbrev pub FindsRoot : Known → Type 0
  FindsRoot known = (lev : List ℕ → ℕ) (m : KeyDigests) → HoldsCells lev m old → Holds m → HoldsCells lev m new × Tells known (held_within lev m everywhere)

-- these are the nodes of a page in a gap of the level above, by the trees of a store
abbrev pub FillsGap : (Trees → KeyDigests → Type 0) → ℕ → Gap (List ℕ) → Trees → Trees → Page → Type 0
FillsGap hold level gap old new = FillsPage (hold old) (old CELLS) (new CELLS) level gap.after gap.before
