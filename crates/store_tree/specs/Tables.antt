-- The table of cells in a store's file.
use Rattle.std.specs.Prelude.{◌≡◌, ◌≢◌, ◌<◌, ℕ, Bool, true, false, List, [], ◌∷◌, ◌++◌, length, map}
use Rattle.std.specs.Global.{Vec}
use Rattle.sqlite_value.specs.Keys.{plain}
use Rattle.sqlite_value.specs.Order.{Row}
use Rattle.sqlite_trees.specs.declared.store.Shape.TheVariants.{Index}
use Rattle.sqlite_trees.specs.declared.store.Store.{Ghosts}
use Rattle.sqlite_trees.specs.Tree.{Trees}
use Rattle.sqlite_trees.specs.View.{View}
use Rattle.store_file.specs.Logs.{IsClean}
use Rattle.store_file.specs.declared.catalog.TheConstants.{CELLS}
use Rattle.store_tree.specs.Rows.{row_of_cell}
use Rattle.store_tree.specs.declared.cell.Cell.{Cell}

-- the table of cells is a table without rowids
abbrev pub HasCells : View → Type 0
HasCells v = v.shape CELLS ≡ Index plain

-- over a clean disk the store has the table of cells
abbrev pub HasTable : {S : Type 0} → Ghosts S → S → Type 0
HasTable g trees = IsClean g trees → HasCells (g.view trees)

-- the other tables are as they were
abbrev pub KeepsOthers : Trees → Trees → Type 0
KeepsOthers old new = (tree : ℕ) → tree ≢ CELLS → new tree ≡ old tree

-- the last of the rows, or that there is none
abbrev pub GivesLast : List Row → Row → Bool → Type 0
GivesLast rows row true = (before : List Row) × (rows ≡ before ++ row ∷ [])
GivesLast rows row false = rows ≡ []

-- the rows are those of these cells, or begin with them where they are as many as there may be
pub record IsScan (most : ℕ) (rows : List Row) (cells : Vec Cell) : Type 0 where
  pub more : List Row
  pub are : rows ≡ map row_of_cell cells.items ++ more
  pub all : length cells.items < most → more ≡ []
