use Rattle.std.proofs.Common.{◌≡◌, ◌+◌, ◌∷◌, [], take, refl, ap, ◌∙◌, arith}
use Rattle.std.proofs.lemmas.List.{take_all}
use Rattle.merkle_search_tree.specs.Items.{item, items}
use Rattle.merkle_replica.specs.Descent.{node_count}
use Rattle.merkle_replica.proofs.Descents.{map_more}
use Rattle.merkle_replica.proofs.Missing.{count-append}
use Rattle.merkle_replica.proofs.descent.node_count.Goals as goal
use Rattle.merkle_replica.proofs.descent.node_count.Goals.{in-Node, in_default}

pub items-init : goal.items-init
items-init g c = record { counted = refl; few = omega arith }

pub items-preserved : goal.items-preserved
items-preserved g c =
    let xs = c.args.items.now in
    let x = c.item-item.result in
    let first = items (take c.items.item-index xs) in
    let more : node_count (items (take (c.items.item-index + 1) xs)) ≡ node_count first + node_count (item x ∷ []) =
    ap node_count (map_more item xs c.items.item-index x c.items-test.true c.item-item.is) ∙ count-append first (item x ∷ []) in
    let so_far = c.items.invariant.counted in
    let few = c.items.invariant.few in
    elim c.match-item.branch [
      | in-Node w ↦ record { counted = omega (arith, w.count-is, so_far, more, ap (λ y. node_count (item y ∷ [])) w.in-Node.is); few = omega (arith, w.count-is, few) }
      | in_default w ↦ record { counted = omega (arith, w.count-is, so_far, more, ap (λ y. node_count (item y ∷ [])) w.in_default.is); few = omega (arith, w.count-is, few) }
    ]

pub returns : goal.returns
returns g c = c.items.invariant.counted ∙ ap (λ xs. node_count (items xs)) (take_all c.items.item-index c.args.items.now c.items-test.false)
