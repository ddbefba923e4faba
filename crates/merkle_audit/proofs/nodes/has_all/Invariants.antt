use Rattle.std.proofs.Common.{take}
use Rattle.merkle_audit.specs.Nodes.{HasAll}
use Rattle.merkle_replica.specs.Contents.{side}
use Rattle.merkle_search_tree.specs.Items.{items}
use Rattle.merkle_wire.specs.Outlines.{nodes_among}
use Rattle.merkle_audit.proofs.nodes.has_all.Given as goal

-- the side has the nodes among the first items
abbrev pub invariant-items : goal.invariant-items
invariant-items g l = HasAll g.H.RowHasher.laws (side l.local) (nodes_among (items (take l.item-index l.list)))
