use Rattle.std.proofs.Common.{◌++◌, ◌∷◌, [], take, ap, sym, ◌∙◌, append-nil}
use Rattle.std.proofs.lemmas.List.{map-append}
use Rattle.merkle_search_tree.specs.Items.{item, items}
use Rattle.merkle_wire.specs.Outlines.{nodes_among, node_pairs}
use Rattle.merkle_wire.proofs.ItemsMore.{map_more, nodes_among-append}
use Rattle.merkle_wire.proofs.nodes.nodes_of.Goals as goal
use Rattle.merkle_wire.proofs.nodes.nodes_of.Goals.{in-Node+in_ok-push, in_default}

pub items-preserved : goal.items-preserved
items-preserved g c =
    let x = c.item-item.result in
    let first = items (take c.items.item-index c.args.list.now) in
    let more = ap nodes_among (map_more item c.args.list.now c.items.item-index x c.items-test.true c.item-item.is) ∙ nodes_among-append first (item x ∷ []) in
    elim c.match-item.branch [
      | in-Node+in_ok-push w ↦ ap (λ v. node_pairs v.items) w.nodes-is ∙ ap node_pairs w.in_ok-push.ensures.items ∙ map-append _ c.items.nodes.items _
          ∙ ap (λ ns. ns ++ (w.in-Node.key.now, w.in-Node.digest.now) ∷ []) c.items.invariant ∙ ap (λ y. nodes_among first ++ nodes_among (item y ∷ [])) (sym w.in-Node.is) ∙ sym more
      | in_default w ↦ ap (λ v. node_pairs v.items) w.nodes-is ∙ c.items.invariant ∙ sym (append-nil (nodes_among first))
          ∙ ap (λ y. nodes_among first ++ nodes_among (item y ∷ [])) (sym w.in_default.is) ∙ sym more
    ]
