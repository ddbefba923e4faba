use Rattle.std.proofs.Common.{◌++◌, ap, sym, subst, ◌∙◌, arith}
use Rattle.merkle_tree_theory.specs.Tree.{Tree, high, row, held_of}
use Rattle.merkle_tree_theory.specs.Page.{pages_below, LevelsFall, RowFalls}
use Rattle.merkle_search_tree.specs.Path.{pages_left}
use Rattle.merkle_tree_theory.proofs.FallingLevels.{high-falls, no-pages}
use Rattle.merkle_search_tree.proofs.page_range_iter.behind.Goals as goal

pub first_page-requires-clause-room : goal.first_page-requires-clause-room
first_page-requires-clause-room g c =
    let s = c.page.inside in
    let falls : RowFalls s.level (row s.nodes.items (held_of s.high_page)) = subst (λ (t : Tree g.row.K.Denot g.row.D.Denot). LevelsFall t) (sym c.page.view_is) c.requires.falls in
    (s.level, high-falls s.level s.nodes.items (held_of s.high_page) falls, omega (arith, c.if-page-eq0.true, c.requires.room))

pub returns-then-page-eq0-clause-pages : goal.returns-then-page-eq0-clause-pages
returns-then-page-eq0-clause-pages g c =
    let s = c.page.inside in
    let falls : RowFalls s.level (row s.nodes.items (held_of s.high_page)) = subst (λ (t : Tree g.row.K.Denot g.row.D.Denot). LevelsFall t) (sym c.page.view_is) c.requires.falls in
    let lowest = subst (λ l. RowFalls l (row s.nodes.items (held_of s.high_page))) c.if-page-eq0.true falls in
    ap (λ (t : Tree g.row.K.Denot g.row.D.Denot). pages_below t ++ pages_left c.args.path.now.items) (sym c.page.view_is)
    ∙ ap (λ xs. xs ++ pages_left c.args.path.now.items)
    (no-pages (row s.nodes.items (held_of s.high_page)) lowest ∙ sym (no-pages (high (held_of s.high_page)) (high-falls 0 s.nodes.items (held_of s.high_page) lowest)))
    ∙ c.first_page.ensures.pages
