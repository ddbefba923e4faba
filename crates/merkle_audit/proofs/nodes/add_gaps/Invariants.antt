use Rattle.std.proofs.Common.{◌≡◌, ◌++◌, take}
use Rattle.merkle_audit.specs.Nodes.{gaps_among}
use Rattle.merkle_replica.specs.Descent.{gaps_of}
use Rattle.merkle_search_tree.specs.Items.{items}
use Rattle.merkle_audit.proofs.nodes.add_gaps.Given as goal

-- the gaps of the pages among the first items are added
abbrev pub invariant-items : goal.invariant-items
invariant-items g l = gaps_of l.gaps.items ≡ gaps_of l.fn.gaps.items ++ gaps_among (items (take l.item-index l.list))
