use Rattle.std.proofs.Common.{◌≡◌, ◌++◌, length}
use Rattle.std.specs.Vec.{vec_len, vec_capacity}
use Rattle.merkle_tree_theory.specs.Tree.{held_of}
use Rattle.merkle_tree_theory.specs.Page.{held_pages}
use Rattle.merkle_search_tree.specs.Path.{rest_of, pages_left, HasRoom, PathFits}
use Rattle.merkle_search_tree.proofs.page_range_iter.first_page.Given as goal

abbrev pub invariant-up : goal.invariant-up
invariant-up g l =
    (held_pages (held_of l.initial.held) ++ pages_left l.initial.path.items ≡ held_pages (held_of l.held) ++ pages_left l.path.items)
    × HasRoom (vec_len l.path) (vec_capacity l.path) (held_of l.held)
    × PathFits (vec_capacity l.path) 0 l.path.items

-- the nodes that are left
abbrev pub decreases-up : goal.decreases-up
decreases-up g l = length (rest_of l.path.items)
