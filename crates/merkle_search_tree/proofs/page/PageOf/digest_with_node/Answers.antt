use Rattle.std.proofs.Common.{ap, sym, ◌∙◌}
use Rattle.std.proofs.lemmas.Bool.{eqb-false}
use Rattle.std.specs.Vec.{vec_len}
use Rattle.merkle_tree_theory.specs.Page.{cache}
use Rattle.merkle_tree_theory.specs.Tree.{held_of}
use Rattle.merkle_tree_theory.proofs.Inside.{some_row}
use Rattle.merkle_search_tree.proofs.page.PageOf.digest_with_node.Goals as goal

pub returns-in-Some-clause-some : goal.returns-in-Some-clause-some
returns-in-Some-clause-some g c =
    let s = c.self.inside in (
      some_row s.nodes.items (held_of s.high_page) c.self.view_is (λ z. eqb-false (vec_len s.nodes) 0 (sym c.is_empty.ensures ∙ c.if-is_empty.false) (s.nodes.ok.0 ∙ z)),
      ap cache (sym c.self.view_is) ∙ c.in-Some.is,
    )
