use Rattle.std.proofs.Common.{ap, sym, ◌∙◌}
use Rattle.merkle_tree_theory.specs.Tree.{Tree, page, row, held_of}
use Rattle.merkle_tree_theory.specs.Chain.{row_of_page, page_with_row}
use Rattle.merkle_tree_theory.specs.Edge.{row_more}
use Rattle.merkle_tree_theory.proofs.Edges.{row_more-row}
use Rattle.merkle_search_tree.proofs.page.PageOf.push_node.Goals as goal

pub returns : goal.returns
returns g c =
    let s = c.self.inside in
    ap (λ es. page s.level s.tree_hash (row es (held_of s.high_page))) c.in_ok-push.ensures.items
    ∙ sym (ap (page s.level s.tree_hash) (row_more-row c.args.node s.nodes.items (held_of s.high_page)))
    ∙ ap (λ (t : Tree g.row.K.Denot g.row.D.Denot). page_with_row 0 t (row_more c.args.node (row_of_page t))) c.self.view_is
