use Rattle.std.proofs.Common.{◌≡◌, ◌≤◌, take}
use Rattle.merkle_search_tree.specs.Items.{items}
use Rattle.merkle_replica.specs.Descent.{node_count}
use Rattle.merkle_replica.proofs.descent.node_count.Given as goal

-- the nodes so far are counted
abbrev pub invariant-items : goal.invariant-items
invariant-items g l = record {
  counted : l.count ≡ node_count (items (take l.item-index l.items));
  few : l.count ≤ l.item-index;
}
