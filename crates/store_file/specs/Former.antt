-- The tables of a store in format 3.
use Rattle.std.specs.Prelude.{◌≡◌, List, [], ◌∷◌, codes}
use Rattle.sqlite_value.specs.declared.value.Value.TheVariants.{Text}
use Rattle.sqlite_value.specs.Keys.{plain}
use Rattle.sqlite_trees.specs.declared.store.Shape.TheVariants.{Table, Index}
use Rattle.sqlite_trees.specs.View.{View}
use Rattle.sqlite_store.specs.declared.catalog.Wanted.{Wanted}
use Rattle.store_file.specs.declared.catalog.TheConstants.{ENTRIES_SQL, ABOUT_SQL}
use Rattle.store_file.specs.Logs.{IsAtRest}

-- the table of entries, and the table that says whose store it is
abbrev pub former_tables : List Wanted
former_tables =
    record { shape = Index plain; reals = 0; row = Text (codes "table") ∷ Text (codes "entry") ∷ Text (codes "entry") ∷ Text ENTRIES_SQL.now ∷ [] }
    ∷ record { shape = Table; reals = 0; row = Text (codes "table") ∷ Text (codes "about") ∷ Text (codes "about") ∷ Text ABOUT_SQL.now ∷ [] } ∷ []

-- the two trees are there, and nothing is written that isn't committed
pub record HasFormerTables (v : View) : Type 0 where
  pub entries : v.shape 0 ≡ Index plain
  pub about : v.shape 1 ≡ Table
  pub settled : v.shape ≡ v.committed_shape
  pub rest : IsAtRest v
