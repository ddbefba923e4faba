use Rattle.std.proofs.Common.{◌+◌, ◌*◌}
use Rattle.merkle_tree_theory.specs.Tree.{tree_size, held_size, held_of}
use Rattle.merkle_search_tree.proofs.+node.Given as goal

abbrev pub decreases-page::PageOf::node_with : goal.decreases-page::PageOf::node_with
decreases-page::PageOf::node_with g l = 2 * tree_size l.self.now

abbrev pub decreases-lookup::node_below : goal.decreases-lookup::node_below
decreases-lookup::node_below g l = 2 * held_size (held_of l.held.now) + 1
