-- A traversal visits the nodes of a tree in order.
use Rattle.std.proofs.Common.{◌≡◌, Bool, true, false, List, [], ◌∷◌, ◌++◌, refl, ap, ◌∙◌}
use Rattle.merkle_tree_theory.specs.Tree.{Tree, page, Row, high, node, Held, nothing, below, Node}
use Rattle.merkle_tree_theory.specs.Page.{nodes_in_order, row_in_order, held_in_order}
use Rattle.merkle_tree_theory.specs.Events.{Event, visit_page, pre_visit_node, visit_node, post_visit_node, post_visit_page, events_of, row_events, held_events}
use Rattle.merkle_tree_theory.specs.Visited.{visited_nodes}

module _ {K D : Type 0} where
  visited-append : (xs ys : List (Event K D)) → visited_nodes (xs ++ ys) ≡ visited_nodes xs ++ visited_nodes ys
  visited-append [] ys = refl
  visited-append (visit_page t h ∷ es) ys = visited-append es ys
  visited-append (pre_visit_node n ∷ es) ys = visited-append es ys
  visited-append (visit_node n ∷ es) ys = ap (λ ns. n ∷ ns) (visited-append es ys)
  visited-append (post_visit_node n ∷ es) ys = visited-append es ys
  visited-append (post_visit_page t ∷ es) ys = visited-append es ys

  mutual
    -- the calls at a page visit its nodes and those below it, in the order of their keys
    pub visits_in_order : (h : Bool) (t : Tree K D) → visited_nodes (events_of h t) ≡ nodes_in_order t
    visits_in_order h (page l c r) = row_visits (page l c r) r

    row_visits : (t : Tree K D) (r : Row K D) → visited_nodes (row_events t r) ≡ row_in_order r
    row_visits t (high h) = held_visits true h
    row_visits t (node h k d r) =
        let n : Node K D = record { lt = h; key = k; digest = d } in
        visited-append (held_events false h) (visit_node n ∷ post_visit_node n ∷ row_events t r) ∙ (λ i. held_visits false h i ++ n ∷ row_visits t r i)

    held_visits : (b : Bool) (h : Held K D) → visited_nodes (held_events b h) ≡ held_in_order h
    held_visits b nothing = refl
    held_visits b (below t) = visits_in_order b t
