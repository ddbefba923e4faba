use Rattle.std.proofs.Common.{◌+◌, ◌*◌}
use Rattle.merkle_tree_theory.specs.Tree.{tree_size, held_size, held_of}
use Rattle.merkle_search_tree.proofs.+over.Given as goal

abbrev pub decreases-page::PageOf::page_over : goal.decreases-page::PageOf::page_over
decreases-page::PageOf::page_over g l = 2 * tree_size l.self.now

abbrev pub decreases-lookup::over_below : goal.decreases-lookup::over_below
decreases-lookup::over_below g l = 2 * held_size (held_of l.held.now) + 1
