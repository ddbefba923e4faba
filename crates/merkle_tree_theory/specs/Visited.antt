-- The nodes that a traversal visits.
use Rattle.std.specs.Prelude.{List, [], ◌∷◌}
use Rattle.merkle_tree_theory.specs.Tree.{Node}
use Rattle.merkle_tree_theory.specs.Events.{Event, visit_page, pre_visit_node, visit_node, post_visit_node, post_visit_page}

-- the nodes of the calls of `visit_node`, in the order of the calls
abbrev pub visited_nodes : {K D : Type 0} → List (Event K D) → List (Node K D)
visited_nodes [] = []
visited_nodes (visit_page t h ∷ es) = visited_nodes es
visited_nodes (pre_visit_node n ∷ es) = visited_nodes es
visited_nodes (visit_node n ∷ es) = n ∷ visited_nodes es
visited_nodes (post_visit_node n ∷ es) = visited_nodes es
visited_nodes (post_visit_page t ∷ es) = visited_nodes es
