use Rattle.std.proofs.Common.{◌≡◌, ℕ, List, Some, map, take}
use Rattle.std.specs.List.{flat_map}
use Rattle.key_order.specs.Map.{get}
use Rattle.merkle_digest.specs.SipHash.{zero_key}
use Rattle.merkle_digest.specs.Sip24.{Holds}
use Rattle.merkle_replica.specs.Contents.{side, tree_map}
use Rattle.merkle_search_tree.specs.Items.{items}
use Rattle.merkle_wire.specs.Outlines.{keys_among, nodes_among}
use Rattle.merkle_audit.proofs.nodes.differ.Given as goal

-- the side has the keys of the nodes among the first items, and the digests of both are written
abbrev pub invariant-items : goal.invariant-items
invariant-items g l =
    let laws = g.H.RowHasher.laws in
    let nodes = nodes_among (items (take l.item-index l.list)) in
    (ds : List (List ℕ)) × (map (get g.K.Ord.cmp (tree_map laws (side l.local))) (keys_among nodes) ≡ map Some ds)
    × Holds l.own zero_key (flat_map (λ d. d) ds) × Holds l.theirs zero_key (flat_map (λ d. d) (map (λ n. n.1) nodes))
