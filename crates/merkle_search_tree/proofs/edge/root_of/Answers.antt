use Rattle.std.proofs.Common.{ap, sym, subst, ◌∙◌}
use Rattle.merkle_tree_theory.specs.Tree.{held_of}
use Rattle.merkle_tree_theory.specs.TreeOf.{root_of}
use Rattle.merkle_tree_theory.specs.Edge.{IsRootOf}
use Rattle.merkle_tree_theory.proofs.Edges.{closes-all}
use Rattle.merkle_search_tree.proofs.edge.root_of.Goals as goal

pub returns-in-Some : goal.returns-in-Some
returns-in-Some g c =
    λ lev a. subst (IsRootOf lev c.args.edge.items) (ap (λ o. root_of (held_of o)) c.in-Some.is ∙ sym c.into_inner.ensures)
    (closes-all lev c.args.edge.items c.close.new.edge.items (held_of c.in_ok-page.field-0) c.in_ok-page.ensures.levels (c.in_ok-page.ensures.closed lev a))

pub returns : goal.returns
returns g c =
    λ lev a. subst (IsRootOf lev c.args.edge.items) (ap (λ o. root_of (held_of o)) c.in-None.is ∙ sym c.empty.ensures)
    (closes-all lev c.args.edge.items c.close.new.edge.items (held_of c.in_ok-page.field-0) c.in_ok-page.ensures.levels (c.in_ok-page.ensures.closed lev a))
