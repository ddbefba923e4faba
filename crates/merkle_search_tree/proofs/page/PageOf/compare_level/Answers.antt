use Rattle.std.proofs.Common.{ap, sym, ◌∙◌, arith}
use Rattle.std.proofs.lemmas.Bool.{eqb-true, eqb-false}
use Rattle.std.specs.Vec.{vec_len}
use Rattle.merkle_tree_theory.specs.Tree.{held_of}
use Rattle.merkle_tree_theory.specs.Upsert.{level_order}
use Rattle.merkle_tree_theory.proofs.Gaps.{order_none, order_some}
use Rattle.merkle_search_tree.proofs.page.PageOf.compare_level.Goals as goal

pub returns-then-is_empty : goal.returns-then-is_empty
returns-then-is_empty g c =
    let s = c.self.inside in
    let none = eqb-true (vec_len s.nodes) 0 (sym c.is_empty.ensures ∙ c.if-is_empty.true) in
    order_none c.args.level s.level s.tree_hash s.nodes.items (held_of s.high_page) (omega (arith, none, s.nodes.ok.0)) ∙ ap (level_order c.args.level) c.self.view_is

pub returns : goal.returns
returns g c =
    let s = c.self.inside in
    let ne = eqb-false (vec_len s.nodes) 0 (sym c.is_empty.ensures ∙ c.if-is_empty.false) in
    c.cmp.ensures ∙ order_some c.args.level s.level s.tree_hash s.nodes.items (held_of s.high_page) (omega (arith, ne, s.nodes.ok.0)) ∙ ap (level_order c.args.level) c.self.view_is
