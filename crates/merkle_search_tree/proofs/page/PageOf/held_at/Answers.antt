use Rattle.std.proofs.Common.{get_or, length, ap, sym, ◌∙◌, arith}
use Rattle.merkle_tree_theory.specs.Tree.{Tree, Node, held_of}
use Rattle.merkle_tree_theory.specs.Chain.{first_of, row_drop, row_of_page}
use Rattle.merkle_search_tree.proofs.Partings.{first-at, first-last}
use Rattle.merkle_search_tree.proofs.page.PageOf.held_at.Goals as goal

pub returns-in-Some : goal.returns-in-Some
returns-in-Some g c =
    let s = c.self.inside in
    let i = c.args.at in
    let x = c.in-Some.node.now in
    let found = c.in-Some.ensures.lookup in
    ap (λ (e : Node g.row.K.Denot g.row.D.Denot). e.lt) (c.node.view_is ∙ found.1 ∙ ap (λ es. get_or es i x) c.deref.ensures.value)
    ∙ sym (first-at s.nodes.items (held_of s.high_page) i x (omega (arith, found.3.0, ap length c.deref.ensures.value)))
    ∙ ap (λ (t : Tree g.row.K.Denot g.row.D.Denot). first_of (row_drop i (row_of_page t))) c.self.view_is

pub returns-in-None : goal.returns-in-None
returns-in-None g c =
    let s = c.self.inside in
    let i = c.args.at in
    sym (first-last s.nodes.items (held_of s.high_page) i (omega (arith, c.in-None.ensures.lookup.3, ap length c.deref.ensures.value)))
    ∙ ap (λ (t : Tree g.row.K.Denot g.row.D.Denot). first_of (row_drop i (row_of_page t))) c.self.view_is
