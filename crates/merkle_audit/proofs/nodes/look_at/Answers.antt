use Rattle.std.proofs.Common.{◌++◌, ◌∷◌, [], take, ap, sym, subst, ◌∙◌}
use Rattle.merkle_replica.specs.Contents.{side}
use Rattle.merkle_replica.specs.Descent.{gaps_of}
use Rattle.merkle_search_tree.specs.Items.{lent_gap, items}
use Rattle.merkle_wire.specs.Outlines.{nodes_among}
use Rattle.merkle_wire.proofs.ItemsMore.{map_more}
use Rattle.merkle_audit.specs.Nodes.{AreFaithful, AreLookedAt, gaps_among}
use Rattle.merkle_audit.proofs.NodesAmong.{looked_more}
use Rattle.merkle_audit.proofs.nodes.look_at.Goals as goal

pub gaps-preserved : goal.gaps-preserved
gaps-preserved g c =
    let laws = g.H.RowHasher.laws in
    let local = side c.args.local.now in
    let tree = c.args.peer.now.tree in
    let x = c.gap-item.result in
    let first = gaps_of (take c.gaps.gap-index c.args.gaps.now) in
    let is = ap items c.deref.ensures.value ∙ c.in_ok-list.ensures in
    let is-2 = ap items c.deref-in-gaps.ensures.value ∙ c.in_ok-list.ensures in
    let faithful = subst (λ xs. AreFaithful laws local (nodes_among xs)) is (c.are_faithful.ensures c.if-not-are_faithful.false) in
    let looked = looked_more laws local tree first (gaps_of c.gaps.below.items) (lent_gap x) c.gaps.invariant faithful in
    let now = c.in_ok-add_gaps.ensures ∙ ap (λ xs. gaps_of c.gaps.below.items ++ gaps_among xs) is-2 in
    subst (λ gs. AreLookedAt laws local tree gs (gaps_of c.add_gaps.new.gaps.items)) (sym (map_more lent_gap c.args.gaps.now c.gaps.gap-index x c.gaps-test.true c.gap-item.is))
    (subst (AreLookedAt laws local tree (first ++ lent_gap x ∷ [])) (sym now) looked)
