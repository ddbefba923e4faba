use Rattle.std.proofs.Common.{Bool, drop}
use Rattle.merkle_tree_theory.specs.Tree.{row, held_of}
use Rattle.merkle_tree_theory.specs.Events.{row_events}
use Rattle.merkle_tree_theory.specs.Traversal.{Visits}
use Rattle.merkle_search_tree.proofs.visitor.+traverse.Given as goal

abbrev pub invariant-traverse_page-nodes : goal.invariant-traverse_page-nodes
invariant-traverse_page-nodes g l =
    (all : Bool) (after : g.row.T.Denot)
    → Visits g.T.Visitor.step l.visitor (row_events l.page (row (drop l.node-index l.node-items) (held_of l.page-inside.high_page))) all after
    → Visits g.T.Visitor.step l.initial.visitor (row_events l.page (row l.node-items (held_of l.page-inside.high_page))) all after
