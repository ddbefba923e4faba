-- Which logs are a file that has the tree of its latest registers.
use Rattle.std.specs.Prelude.{ℕ, List}
use Rattle.sqlite_trees.specs.declared.store.Store.{Ghosts}
use Rattle.store_file.specs.Logs.{IsLog}
use Rattle.store_rows.specs.InStep.{StandsInStep}
use Rattle.store_side.specs.FileTrees.{IsFile}

-- the trees of a log that stands in step are a file that has rows and the tree of their digests
abbrev pub IsFileInStep : {S : Type 0} → Ghosts S → Type 0
IsFileInStep {S} g = (hash_key : List ℕ) (trees : S) → IsLog g trees → StandsInStep g hash_key trees → IsFile g hash_key trees
