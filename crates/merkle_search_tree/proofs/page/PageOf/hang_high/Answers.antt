use Rattle.std.proofs.Common.{ap, sym, ◌∙◌}
use Rattle.merkle_tree_theory.specs.Tree.{Tree, page, held_of}
use Rattle.merkle_tree_theory.specs.Chain.{with_high, row_of_page, page_with_row}
use Rattle.merkle_tree_theory.proofs.PageChains.{with_high-row}
use Rattle.merkle_search_tree.proofs.page.PageOf.hang_high.Goals as goal

pub returns : goal.returns
returns g c =
    let s = c.self.inside in
    sym (ap (page s.level s.tree_hash) (with_high-row s.nodes.items (held_of s.high_page) (held_of c.args.held)))
    ∙ ap (λ (t : Tree g.row.K.Denot g.row.D.Denot). page_with_row 0 t (with_high (held_of c.args.held) (row_of_page t))) c.self.view_is
