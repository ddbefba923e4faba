-- A log and the tree of its latest registers, in step.
use Rattle.std.specs.Prelude.{◌≡◌, ℕ, List, []}
use Rattle.sqlite_trees.specs.declared.store.Store.{Ghosts}
use Rattle.sqlite_trees.specs.Tree.{Trees}
use Rattle.store_file.specs.Changes.{HasEntriesMore, HasEntriesInstead}
use Rattle.store_file.specs.Entries.{HoldsEntries}
use Rattle.store_file.specs.Logs.{IsClean, IsOpen, trees_of}
use Rattle.store_file.specs.declared.catalog.TheConstants.{CELLS}
use Rattle.store_tree.specs.Cells.{HoldsCells}
use Rattle.store_tree.specs.Loads.{KnowsNothing}
use Rattle.store_tree.specs.Tables.{KeepsOthers}
use Rattle.store_tree.specs.Texts.{bytes_map}
use Rattle.store_rows.specs.Digests.{AreLatestDigests, TextDigests, TextRows, key_level}

-- the table of entries has these keys, each with the digest of its latest register, and the table of cells has the gaps of their tree
pub record HasTreeOfDigests (hash_key : List ℕ) (pairs : TextDigests) (trees : Trees) : Type 0 where
  pub digests : AreLatestDigests hash_key trees pairs
  pub cells : HoldsCells (key_level hash_key) (bytes_map pairs) (trees CELLS)

-- the table of entries holds entries, and the table of cells has the gaps of the tree of their keys
pub record IsInStep (hash_key : List ℕ) (trees : Trees) : Type 0 where
  pub entries : TextRows
  pub held : HoldsEntries trees entries
  pub pairs : TextDigests
  pub tree : HasTreeOfDigests hash_key pairs trees

-- where the log and its tree were in step, they are
abbrev pub StaysInStep : List ℕ → Trees → Trees → Type 0
StaysInStep hash_key old new = IsInStep hash_key old → IsInStep hash_key new

-- where nothing was known of what stands in the gaps, they stay in step
abbrev pub LoadsInStep : List ℕ → Trees → Trees → Type 0
LoadsInStep hash_key old new = KnowsNothing (old CELLS) → StaysInStep hash_key old new

module _ (hash_key : List ℕ) (entries : TextRows) (old new : Trees) where
  -- the table of entries has these too, and where the log and its tree were in step, they are
  pub record AddsInStep : Type 0 where
    pub more : HasEntriesMore entries old new
    pub kept : StaysInStep hash_key old new

  -- the table of entries has these in place of its own, and the log and its tree are in step
  pub record PutsInStep : Type 0 where
    pub instead : HasEntriesInstead entries old new
    pub in_step : IsInStep hash_key new

-- no table but that of cells has changed, and where the log and its tree were in step, they are
pub record HashesInStep (hash_key : List ℕ) (old new : Trees) : Type 0 where
  pub others : KeepsOthers old new
  pub kept : StaysInStep hash_key old new

-- a table of entries without rows and a table of cells without rows are in step
abbrev pub BeginsInStep : Type 0
BeginsInStep = (hash_key : List ℕ) (trees : Trees) → trees 0 ≡ [] → trees CELLS ≡ [] → IsInStep hash_key trees

module _ {S : Type 0} (g : Ghosts S) where
  -- over a clean disk, while the log is open, it and its tree are in step
  abbrev pub StandsInStep : List ℕ → S → Type 0
  StandsInStep hash_key trees = IsClean g trees → IsOpen g trees → IsInStep hash_key (trees_of g trees)
