use Rattle.std.proofs.Common.{None, ap, sym, ◌∙◌, arith}
use Rattle.merkle_tree_theory.specs.Tree.{Tree, page, row, held_of}
use Rattle.merkle_tree_theory.specs.Chain.{page_length, row_take, row_drop, row_of_page, page_with_row}
use Rattle.merkle_tree_theory.proofs.PageChains.{row_length-row, row_take-row, row_drop-row}
use Rattle.merkle_search_tree.proofs.page.PageOf.part.Goals as goal

pub move_tail-requires-clause-in_bounds : goal.move_tail-requires-clause-in_bounds
move_tail-requires-clause-in_bounds g c =
    let s = c.self.inside in
    let len = sym (row_length-row s.nodes.items (held_of s.high_page)) ∙ ap page_length c.self.view_is in
    omega (arith, len, c.requires.in_bounds, s.nodes.ok.0)

pub move_tail-requires-clause-room : goal.move_tail-requires-clause-room
move_tail-requires-clause-room g c =
    let s = c.self.inside in
    let len = sym (row_length-row s.nodes.items (held_of s.high_page)) ∙ ap page_length c.self.view_is in
    omega (arith, len, c.requires.room, s.nodes.ok.0)

pub returns-clause-stays : goal.returns-clause-stays
returns-clause-stays g c =
    let s = c.self.inside in
    (λ j. page s.level None (row ((c.shrink_to_fit.ensures.items ∙ c.move_tail.ensures.kept) j) (held_of (c.replace-above.ensures.after j))))
    ∙ sym (ap (page s.level None) (row_take-row c.args.at s.nodes.items (held_of s.high_page)))
    ∙ ap (λ (t : Tree g.row.K.Denot g.row.D.Denot). page_with_row 1 t (row_take c.args.at (row_of_page t))) c.self.view_is

pub returns-clause-goes : goal.returns-clause-goes
returns-clause-goes g c =
    let s = c.self.inside in
    c.into_page.ensures
    ∙ (λ j. page s.level None (row (c.move_tail.ensures.moved j) (held_of (c.replace-above.ensures.value j))))
    ∙ sym (ap (page s.level None) (row_drop-row c.args.at s.nodes.items (held_of s.high_page)))
    ∙ ap (λ (t : Tree g.row.K.Denot g.row.D.Denot). page_with_row 1 t (row_drop c.args.at (row_of_page t))) c.self.view_is
