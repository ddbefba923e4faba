use Rattle.std.proofs.Common.{◌≡◌, take}
use Rattle.merkle_search_tree.specs.Items.{items}
use Rattle.merkle_wire.specs.Outlines.{nodes_among, node_pairs}
use Rattle.merkle_wire.proofs.nodes.nodes_of.Given as goal

-- the nodes among the first items are listed
abbrev pub invariant-items : goal.invariant-items
invariant-items g l = node_pairs l.nodes.items ≡ nodes_among (items (take l.item-index l.list))
