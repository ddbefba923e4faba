use Rattle.merkle_tree_theory.proofs.VisitOrder.{visits_in_order}
use Rattle.merkle_tree_theory.proofs.laws.a_traversal_visits_nodes_in_order.Goals as goal

pub returns : goal.returns
returns g c is_high t = visits_in_order is_high t
