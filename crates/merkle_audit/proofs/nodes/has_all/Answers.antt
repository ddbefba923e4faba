use Rattle.std.proofs.Common.{◌++◌, ◌∷◌, [], take, ap, sym, subst, ◌∙◌, append-nil}
use Rattle.key_order.proofs.ListParts.{each-append}
use Rattle.merkle_replica.specs.Contents.{side}
use Rattle.merkle_replica.specs.Descent.{HasDigestAt}
use Rattle.merkle_search_tree.specs.Items.{item, items}
use Rattle.merkle_wire.specs.Outlines.{nodes_among}
use Rattle.merkle_audit.specs.Nodes.{HasAll}
use Rattle.merkle_audit.proofs.NodesAmong.{nodes_more}
use Rattle.merkle_audit.proofs.nodes.has_all.Goals as goal
use Rattle.merkle_audit.proofs.nodes.has_all.Goals.{in-Node+else-not-has_node, in_default}

pub items-preserved : goal.items-preserved
items-preserved g c =
    let laws = g.H.RowHasher.laws in
    let local = side c.args.local.now in
    let x = c.item-item.result in
    let first = items (take c.items.item-index c.args.list.now) in
    let nodes = nodes_among first in
    let more = nodes_more item c.args.list.now c.items.item-index x c.items-test.true c.item-item.is in
    elim c.match-item.branch [
      | in-Node+else-not-has_node w ↦ subst (HasAll laws local) (sym (more ∙ ap (λ y. nodes ++ nodes_among (item y ∷ [])) w.in-Node.is))
          (each-append (λ n. HasDigestAt laws local n.0 n.1) nodes ((w.in-Node.key.now, w.in-Node.digest.now) ∷ []) c.items.invariant (w.has_node.ensures w.if-not-has_node.false, tt))
      | in_default w ↦ subst (HasAll laws local) (sym (more ∙ ap (λ y. nodes ++ nodes_among (item y ∷ [])) w.in_default.is ∙ append-nil nodes)) c.items.invariant
    ]
