-- Trees that were made are a log.
use Rattle.std.proofs.Common.{◌≡◌, false, ap}
use Rattle.sqlite_value.specs.Keys.{plain}
use Rattle.sqlite_trees.specs.declared.store.Shape.TheVariants.{Table, Index}
use Rattle.sqlite_trees.specs.declared.store.Store.{Ghosts}
use Rattle.sqlite_trees.specs.Objects.{catalog_tree}
use Rattle.sqlite_trees.specs.Tree.{Trees}
use Rattle.store_file.specs.Logs.{IsLog}

-- so they are where all three have the shapes of a store's, and all is committed
pub made_log : {S : Type 0} (g : Ghosts S)
    → ((s : S) → (g.view s).is_broken ≡ false → (g.view s).trees catalog_tree ≡ (g.view s).committed catalog_tree
    → ((g.view s).shape ≡ (g.view s).committed_shape) × ((g.view s).reals ≡ (g.view s).committed_reals))
    → (s : S) → (g.view s).shape 0 ≡ Index plain → (g.view s).shape 1 ≡ Table → (g.view s).shape 2 ≡ Index plain → (g.view s).trees ≡ (g.view s).committed → (g.view s).is_broken ≡ false → IsLog g s
made_log g unaltered s entries about cells same sound = record {
  tables = λ clean. record { entries = entries; about = about; cells = cells; settled = (unaltered s sound (ap (λ (t : Trees). t catalog_tree) same)).0 };
  rest = λ clean o. record { sound = sound; settled = same };
}
