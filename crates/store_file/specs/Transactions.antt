-- What is written in a transaction before it is committed or taken back.
use Rattle.std.specs.Prelude.{◌≡◌, Result, IsOk}
use Rattle.sqlite_trees.specs.declared.store.Store.{Ghosts}
use Rattle.sqlite_trees.specs.Tree.{Trees}
use Rattle.sqlite_trees.specs.View.{KeepsSchema, KeepsCommitted, IsQuiet}
use Rattle.store_file.specs.Logs.{IsClean, trees_of}

module _ {S : Type 0} (g : Ghosts S) where
  -- no fault is forgotten, only a fault shuts it, and a crash may leave no more than before
  abbrev pub StaysQuiet : S → S → Type 0
  StaysQuiet old new = IsQuiet g.view g.faults g.recovers g.is_shielded old new

  -- nothing is committed: the tables are the same ones, what the old one had committed is still so, and it stays quiet
  pub record CommitsNothing (old new : S) : Type 0 where
    pub schema : KeepsSchema (g.view old) (g.view new)
    pub kept : IsClean g new → KeepsCommitted (g.view old) (g.view new)
    pub quiet : StaysQuiet old new

  -- a call succeeded on a clean disk, and these are the trees that it left
  pub record WereWritten {A E : Type 0} (new : S) (call : Result A E) (trees : Trees) : Type 0 where
    pub succeeded : IsOk call
    pub clean : IsClean g new
    pub same : trees ≡ trees_of g new
