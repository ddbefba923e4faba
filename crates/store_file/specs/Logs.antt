-- What a call makes of a log: the trees that it shows, and what a crash may leave. A log is clean where the disk gave back what was written.
use Rattle.std.specs.Prelude.{◌≡◌, ◌⊎◌, ◌≤◌, false, Result, IfOk, OnOk, OnErr, IsErrOf, IsTrue}
use Rattle.sqlite_disk.specs.Disk.{MoreFaults}
use Rattle.sqlite_value.specs.Keys.{plain}
use Rattle.sqlite_trees.specs.declared.store.Shape.TheVariants.{Table, Index}
use Rattle.sqlite_trees.specs.declared.store.Store.{Ghosts}
use Rattle.sqlite_trees.specs.Tree.{Trees}
use Rattle.sqlite_trees.specs.View.{View, doubt}

-- the first tree and the third one are tables without rowids, the second one has them, and all three are committed
pub record HasTables (v : View) : Type 0 where
  pub entries : v.shape 0 ≡ Index plain
  pub about : v.shape 1 ≡ Table
  pub cells : v.shape 2 ≡ Index plain
  pub settled : v.shape ≡ v.committed_shape

-- what it shows is committed
pub record IsAtRest (v : View) : Type 0 where
  pub sound : v.is_broken ≡ false
  pub settled : v.trees ≡ v.committed

module _ {S : Type 0} (g : Ghosts S) where
  -- the trees that a log shows
  abbrev pub trees_of : S → Trees
  trees_of log = (g.view log).trees

  -- the disk is clean
  abbrev pub IsClean : S → Type 0
  IsClean log = doubt (g.view log).is_clean ≡ 0

  -- over a clean disk the first tree is a table without rowids
  abbrev pub HasEntryTable : S → Type 0
  HasEntryTable trees = IsClean trees → (g.view trees).shape 0 ≡ Index plain

  -- no fault has shut it
  abbrev pub IsOpen : S → Type 0
  IsOpen log = IsTrue (g.view log).is_open

  -- it has the tables of a store, and while it is open all that it shows is committed
  pub record IsLog (log : S) : Type 0 where
    pub tables : IsClean log → HasTables (g.view log)
    pub rest : IsClean log → IsOpen log → IsAtRest (g.view log)

  -- a crash may leave no more than before
  abbrev pub LeavesNoMore : S → S → Type 0
  LeavesNoMore old new = (trees : Trees) → g.recovers new trees → g.recovers old trees

  -- a crash may leave what it could leave before, or on a clean disk trees that `Is` relates to the old ones
  abbrev pub Leaves : S → S → (Trees → Trees → Type 0) → Type 0
  Leaves old new Is = (trees : Trees) → g.recovers new trees → (IsClean old × Is (trees_of old) trees) ⊎ g.recovers old trees

  -- a disk that isn't clean stays so, no fault is forgotten, only a fault shuts it, and what is shut stays so
  pub record IsSteady (old new : S) : Type 0 where
    pub clean : doubt (g.view old).is_clean ≤ doubt (g.view new).is_clean
    pub counts : g.faults old ≤ g.faults new
    pub closes : IsClean new → IsOpen old → IsOpen new ⊎ MoreFaults (g.faults old) (g.faults new)
    pub was_open : IsClean new → IsOpen new → IsOpen old

  module _ {A E : Type 0} (old new : S) (result : Result A E) where
    -- on a clean disk, `Is` relates the trees to the answer of a successful call
    abbrev pub Finds : (Trees → A → Type 0) → Type 0
    Finds Is = IsClean new → IfOk result (Is (trees_of old))

    -- on a clean disk, a successful call shows that `Is` holds of the trees
    abbrev pub Shows : (Trees → Type 0) → Type 0
    Shows Is = IsClean new → OnOk result (Is (trees_of old))

    -- on a clean disk, `Is` relates the old and the new trees of a successful call
    abbrev pub Makes : (Trees → Trees → Type 0) → Type 0
    Makes Is = IsClean new → OnOk result (Is (trees_of old) (trees_of new))

    -- on a clean disk, `Is` relates the old trees, the new trees and the answer of a successful call
    abbrev pub MakesAndFinds : (Trees → Trees → A → Type 0) → Type 0
    MakesAndFinds Is = IsClean new → IfOk result (Is (trees_of old) (trees_of new))

    -- on a clean disk, a call fails with this error only if `Is` held of the trees
    abbrev pub Refuses : E → (Trees → Type 0) → Type 0
    Refuses why Is = IsClean new → IsErrOf result why → Is (trees_of old)

    -- on a clean disk, a successful call leaves the trees as they were
    abbrev pub StaysInOk : Type 0
    StaysInOk = IsClean new → OnOk result (trees_of new ≡ trees_of old)

    -- over a clean disk, while it is open, the trees are as they were in `Err`
    abbrev pub StaysInErr : Type 0
    StaysInErr = IsClean new → IsOpen new → OnErr result (trees_of new ≡ trees_of old)

    -- the call only reads: on a clean disk the trees stay as they were, and a crash may leave no more than before
    pub record OnlyReads : Type 0 where
      pub unchanged : StaysInOk
      pub refused : StaysInErr
      pub steady : IsSteady old new
      pub crash : LeavesNoMore old new

    -- the call makes of the trees what `Is` says, or nothing: on a clean disk the first in `Ok`, the second in `Err`, and a crash leaves one of the two
    pub record Writes (Is : Trees → Trees → Type 0) : Type 0 where
      pub made : Makes Is
      pub refused : StaysInErr
      pub steady : IsSteady old new
      pub crash : Leaves old new Is
