use Rattle.std.proofs.Common.{◌-◌, length, ap, sym, ◌∙◌, arith}
use Rattle.merkle_tree_theory.specs.Page.{level}
use Rattle.merkle_tree_theory.proofs.Edges.{last-is}
use Rattle.merkle_search_tree.proofs.edge.last_level.Goals as goal

pub returns-in-Some : goal.returns-in-Some
returns-in-Some g c =
    let ts = c.args.edge.now in
    let t = c.in-Some.page.now in
    let item = c.in-Some.ensures.item in
    c.from.ensures ∙ ap level c.page.view_is ∙ ap level item.1 ∙ sym (last-is 256 ts (length ts - 1) t (omega (arith, item.3.0)))
