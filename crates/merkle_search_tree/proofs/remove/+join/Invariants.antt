use Rattle.std.proofs.Common.{◌+◌, ◌*◌}
use Rattle.merkle_tree_theory.specs.Tree.{row, held_of, held_size, row_size}
use Rattle.merkle_search_tree.proofs.remove.+join.Given as goal

abbrev pub decreases-join_below : goal.decreases-join_below
decreases-join_below g l = 2 * (held_size (held_of l.lower.now) + held_size (held_of l.upper.now))

abbrev pub decreases-join_first : goal.decreases-join_first
decreases-join_first g l = 2 * (held_size (held_of l.lower.now) + row_size (row l.nodes.now (held_of l.high_page.now))) + 1
