use Rattle.std.proofs.Common.{ap, ◌∙◌, arith}
use Rattle.merkle_tree_theory.specs.Tree.{held_of}
use Rattle.merkle_tree_theory.specs.Chain.{page_with_row, row_of_page, with_high}
use Rattle.merkle_tree_theory.specs.Edge.{last_level}
use Rattle.merkle_tree_theory.proofs.Edges.{closes-more, last-level}
use Rattle.merkle_search_tree.proofs.edge.close.Goals as goal

pub close-preserved : goal.close-preserved
close-preserved g c =
    let us = c.close.edge.items in
    let vs = c.pop.new.self.items in
    let t = c.in-Some.page in
    let u = c.in_ok-new-in-Some.field-0.value in
    let e = c.in-Some.ensures.items in
    λ lev a. closes-more lev c.args.bound c.args.edge.now.items us vs t u (held_of c.close.held) e
    (omega (arith, c.close-test.true, c.last_level.ensures, ap (last_level 256) c.deref.ensures.value, ap (last_level 256) e, last-level 256 vs t))
    (c.in_ok-new-in-Some.ensures.ok ∙ (c.hang_high.ensures ∙ ap (λ p. page_with_row 0 p (with_high (held_of c.close.held) (row_of_page p))) c.fit_room.ensures)) (c.close.invariant lev a)
