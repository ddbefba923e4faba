use Rattle.std.proofs.Common.{◌∷◌, [], take, sym, subst}
use Rattle.merkle_search_tree.specs.Items.{item, items}
use Rattle.merkle_wire.specs.Outlines.{HasNoPage}
use Rattle.merkle_wire.proofs.ItemsMore.{map_more, no_page-append}
use Rattle.merkle_wire.proofs.outlines.has_page.Goals as goal

pub items-preserved : goal.items-preserved
items-preserved g c =
    let x = c.item-item.result in
    let first = items (take c.items.item-index c.args.list.now) in
    subst HasNoPage (sym (map_more item c.args.list.now c.items.item-index x c.items-test.true c.item-item.is))
    (no_page-append first (item x ∷ []) c.items.invariant (subst (λ y. HasNoPage (item y ∷ [])) (sym c.in_default.is) tt))
