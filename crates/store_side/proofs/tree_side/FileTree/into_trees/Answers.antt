use Rattle.std.proofs.Common.{sym}
use Rattle.store_side.proofs.tree_side.FileTree.into_trees.Goals as goal

pub returns-clause-file : goal.returns-clause-file
returns-clause-file g c = rw (sym c.self.view_is) (c.self.inside.noted.rows, c.self.invariant)
