use Rattle.std.proofs.Common.{◌+◌, ◌*◌}
use Rattle.merkle_tree_theory.specs.Tree.{tree_size, held_size, held_of}
use Rattle.merkle_search_tree.proofs.+set.Given as goal

abbrev pub decreases-page::PageOf::set : goal.decreases-page::PageOf::set
decreases-page::PageOf::set g l = 2 * tree_size l.self.now

abbrev pub decreases-upsert::set_below : goal.decreases-upsert::set_below
decreases-upsert::set_below g l = 2 * held_size (held_of l.held.now) + 1
