use Rattle.std.proofs.Common.{◌+◌, ◌*◌}
use Rattle.merkle_tree_theory.specs.Tree.{tree_size, held_size, held_of}
use Rattle.merkle_search_tree.proofs.+remove.Given as goal

abbrev pub decreases-page::PageOf::remove : goal.decreases-page::PageOf::remove
decreases-page::PageOf::remove g l = 2 * tree_size l.self.now

abbrev pub decreases-remove::remove_below : goal.decreases-remove::remove_below
decreases-remove::remove_below g l = 2 * held_size (held_of l.held.now) + 1
