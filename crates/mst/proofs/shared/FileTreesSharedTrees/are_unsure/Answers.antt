use Rattle.sqlite_pool.specs.Pool.{state}
use Rattle.sqlite_trees.proofs.Doubt.{never_clean}
use Rattle.mst.proofs.shared.FileTreesSharedTrees.are_unsure.Goals as goal

-- (a disk of which nothing is known is never clean)
pub returns : goal.returns
unfolding state
returns c = λ clean. never_clean clean
