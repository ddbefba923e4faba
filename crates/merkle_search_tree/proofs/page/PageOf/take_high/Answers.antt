use Rattle.std.proofs.Common.{ap, sym, ◌∙◌}
use Rattle.merkle_tree_theory.specs.Tree.{Tree, page, row, held_of, nothing}
use Rattle.merkle_tree_theory.specs.Chain.{high_of, with_high, row_of_page, page_with_row}
use Rattle.merkle_tree_theory.proofs.PageChains.{high_of-row, with_high-row}
use Rattle.merkle_search_tree.proofs.page.PageOf.take_high.Goals as goal

pub returns-clause-taken : goal.returns-clause-taken
returns-clause-taken g c =
    let s = c.self.inside in
    ap held_of c.replace.ensures.value ∙ sym (high_of-row s.nodes.items (held_of s.high_page)) ∙ ap (λ (t : Tree g.row.K.Denot g.row.D.Denot). high_of (row_of_page t)) c.self.view_is

pub returns-clause-left : goal.returns-clause-left
returns-clause-left g c =
    let s = c.self.inside in
    ap (λ o. page s.level s.tree_hash (row s.nodes.items (held_of o))) c.replace.ensures.after
    ∙ sym (ap (page s.level s.tree_hash) (with_high-row s.nodes.items (held_of s.high_page) nothing))
    ∙ ap (λ (t : Tree g.row.K.Denot g.row.D.Denot). page_with_row 0 t (with_high nothing (row_of_page t))) c.self.view_is
