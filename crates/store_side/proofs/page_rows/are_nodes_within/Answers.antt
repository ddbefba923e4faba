use Rattle.std.proofs.Common.{◌≡◌, ◌∷◌, [], List, ℕ, true, take, ap, sym, subst, ◌∙◌, rules}
use Rattle.std.specs.List.{AllByRecursion}
use Rattle.key_order.specs.Text.{Text}
use Rattle.key_order.proofs.ListParts.{each-append}
use Rattle.merkle_search_tree.specs.Items.{item, items}
use Rattle.merkle_wire.specs.Outlines.{nodes_among}
use Rattle.merkle_wire.proofs.ItemsMore.{map_more, nodes_among-append}
use Rattle.store_file.specs.Ranges.{is_between}
use Rattle.store_side.proofs.page_rows.are_nodes_within.Goals as goal

pub items-preserved : goal.items-preserved
items-preserved c =
    let gap = c.args.gap.now in
    let Within : Text × List ℕ → Type 0 = λ n. is_between gap.after gap.before n.0 ≡ true in
    let x = c.item-item.result in
    let first = items (take c.items.item-index c.args.list.now) in
    let more = ap nodes_among (map_more item c.args.list.now c.items.item-index x c.items-test.true c.item-item.is) ∙ nodes_among-append first (item x ∷ []) in
    let here : is_between gap.after gap.before c.in-Node.key.now ≡ true = search rules in
    subst (AllByRecursion Within) (sym more) (each-append Within (nodes_among first) (nodes_among (item x ∷ [])) c.items.invariant
    (subst (λ y. AllByRecursion Within (nodes_among (item y ∷ []))) (sym c.in-Node.is) (here, tt)))
