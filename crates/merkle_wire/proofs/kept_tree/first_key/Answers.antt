use Rattle.std.proofs.Common.{map, ap, sym, subst, ◌∙◌}
use Rattle.key_order.specs.Map.{get}
use Rattle.key_order.specs.Order.{Same}
use Rattle.key_order.proofs.Maps.{at_head}
use Rattle.merkle_tree_theory.specs.Page.{pair_of}
use Rattle.merkle_wire.proofs.kept_tree.first_key.Goals as goal

pub returns : goal.returns
returns g c =
    let cmp = g.K.Ord.cmp in
    let key = c.in_ok-clone-in-Some.field-0 in
    let first = pair_of c.in-Some.node.now in
    let same = g.met.K.SameClone.clone_is_same c.key.result.now key c.in_ok-clone-in-Some.ensures.cases in (
      first.1,
      ap (λ rows. get cmp rows key) (sym c.in_ok-node_iter.ensures.map ∙ ap (map pair_of) c.in-Some.ensures.steps)
          ∙ at_head cmp g.met.K.Ord.total first (map pair_of c.next.new.self) key (subst (λ k. Same cmp k key) c.key.ensures same),
    )
