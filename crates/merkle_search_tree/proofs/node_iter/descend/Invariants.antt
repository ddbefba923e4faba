use Rattle.std.proofs.Common.{◌≡◌, ◌++◌}
use Rattle.std.specs.Vec.{vec_len, vec_capacity}
use Rattle.merkle_tree_theory.specs.Tree.{held_of, held_size}
use Rattle.merkle_tree_theory.specs.Page.{held_in_order}
use Rattle.merkle_search_tree.specs.Path.{rest_of, HasRoom, PathFits}
use Rattle.merkle_search_tree.proofs.node_iter.descend.Given as goal

abbrev pub invariant-down : goal.invariant-down
invariant-down g l =
    (held_in_order (held_of l.held) ++ rest_of l.path.items ≡ held_in_order (held_of l.initial.held) ++ rest_of l.initial.path.items)
    × HasRoom (vec_len l.path) (vec_capacity l.path) (held_of l.held)
    × PathFits (vec_capacity l.path) 0 l.path.items

abbrev pub decreases-down : goal.decreases-down
decreases-down g l = held_size (held_of l.held)
