-- The three tables of a store's file, and when it has others.
use Rattle.std.specs.Prelude.{◌≡◌, ◌⊎◌, ℕ, ℤ, pos, List, [], ◌∷◌, codes}
use Rattle.sqlite_value.specs.declared.value.Value.TheVariants.{Text}
use Rattle.sqlite_value.specs.Order.{Row, column}
use Rattle.sqlite_value.specs.Keys.{plain}
use Rattle.sqlite_trees.specs.declared.store.Shape.TheVariants.{Table, Index}
use Rattle.sqlite_store.specs.declared.catalog.Wanted.{Wanted}
use Rattle.store_file.specs.declared.catalog.TheConstants.{ENTRIES_SQL, ABOUT_SQL, CELLS_SQL, FORMER_ENTRIES_SQL, FORMER_ABOUT_SQL}
use Rattle.store_file.specs.declared.fault.StoreFault.{StoreFault}
use Rattle.store_file.specs.declared.fault.StoreFault.TheVariants.{Foreign, Format}

-- the table of entries, in the order of all its columns, the table that says whose store it is, and the table of cells
abbrev pub laid_out : List Wanted
laid_out =
    record { shape = Index plain; reals = 0; row = Text (codes "table") ∷ Text (codes "entry") ∷ Text (codes "entry") ∷ Text ENTRIES_SQL.now ∷ [] }
    ∷ record { shape = Table; reals = 0; row = Text (codes "table") ∷ Text (codes "about") ∷ Text (codes "about") ∷ Text ABOUT_SQL.now ∷ [] }
    ∷ record { shape = Index plain; reals = 0; row = Text (codes "table") ∷ Text (codes "cell") ∷ Text (codes "cell") ∷ Text CELLS_SQL.now ∷ [] } ∷ []

-- a row of sqlite_schema lists a table of this name that is made so
pub record IsTableRow (name sql : List ℕ) (row : Row) : Type 0 where
  pub kind : column row 1 ≡ Text (codes "table")
  pub named : column row 2 ≡ Text name
  pub about : column row 3 ≡ Text name
  pub made : column row 5 ≡ Text sql

-- the rows are those of a store in an earlier format, whose two tables are made so
abbrev pub ListsTwo : List ℕ → List ℕ → List Row → Type 0
ListsTwo entries about [] = ⊥
ListsTwo entries about (first ∷ []) = ⊥
ListsTwo entries about (first ∷ second ∷ []) = IsTableRow (codes "entry") entries first × IsTableRow (codes "about") about second
ListsTwo entries about (first ∷ second ∷ other ∷ more) = ⊥

-- the rows are those of a store, with its three tables
abbrev pub Lists : List Row → Type 0
Lists [] = ⊥
Lists (first ∷ []) = ⊥
Lists (first ∷ second ∷ []) = ⊥
Lists (first ∷ second ∷ third ∷ []) =
    IsTableRow (codes "entry") ENTRIES_SQL.now first × IsTableRow (codes "about") ABOUT_SQL.now second × IsTableRow (codes "cell") CELLS_SQL.now third
Lists (first ∷ second ∷ third ∷ other ∷ more) = ⊥

-- they are those of a store in this earlier format, 1, 2 or 3
abbrev pub AreOfFormat : ℤ → List Row → Type 0
AreOfFormat format rows =
    ((format ≡ pos 1) × ListsTwo FORMER_ENTRIES_SQL.now FORMER_ABOUT_SQL.now rows) ⊎ ((format ≡ pos 2) × ListsTwo ENTRIES_SQL.now FORMER_ABOUT_SQL.now rows)
    ⊎ ((format ≡ pos 3) × ListsTwo ENTRIES_SQL.now ABOUT_SQL.now rows)

-- they aren't those of a store, and are told as one in an earlier format or as something else
abbrev pub RefusesTables : List Row → StoreFault → Type 0
RefusesTables rows (Format format) = AreOfFormat format rows
RefusesTables rows Foreign = ¬ Lists rows × ((format : ℤ) → ¬ AreOfFormat format rows)
RefusesTables rows _ = ⊥
