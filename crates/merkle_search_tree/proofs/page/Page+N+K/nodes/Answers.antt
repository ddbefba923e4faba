use Rattle.std.proofs.Common.{sym, ap, ◌∙◌}
use Rattle.merkle_tree_theory.specs.Page.{nodes_of}
use Rattle.merkle_tree_theory.proofs.Rows.{row_nodes-row}
use Rattle.merkle_search_tree.proofs.page.Page+N+K.nodes.Goals as goal

pub returns : goal.returns
returns g c = c.deref.ensures.value ∙ sym (row_nodes-row _ _) ∙ ap nodes_of c.self.view_is
