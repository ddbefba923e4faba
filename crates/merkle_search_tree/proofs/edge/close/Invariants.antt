use Rattle.std.proofs.Common.{ℕ, vec_len}
use Rattle.merkle_tree_theory.specs.Tree.{held_of}
use Rattle.merkle_tree_theory.specs.Edge.{IsEdge, ClosesPages}
use Rattle.merkle_search_tree.proofs.edge.close.Given as goal

abbrev pub invariant-close : goal.invariant-close
invariant-close g l = (lev : g.row.K.Denot → ℕ) → IsEdge lev 256 l.initial.edge.items → ClosesPages lev l.bound l.initial.edge.items l.edge.items (held_of l.held)

abbrev pub decreases-close : goal.decreases-close
decreases-close g l = vec_len l.edge
