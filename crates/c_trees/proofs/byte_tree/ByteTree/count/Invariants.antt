use Rattle.std.proofs.Common.{◌≡◌, ◌+◌, ◌-◌, ◌≤◌, ◌^◌, length, min}
use Rattle.merkle_search_tree.specs.Loading.{row_count}
use Rattle.merkle_tree_theory.specs.State.{map_of}
use Rattle.c_trees.proofs.byte_tree.ByteTree.count.Given as goal

-- the keys that were counted and those that are left are all keys
abbrev pub invariant-nodes : goal.invariant-nodes
invariant-nodes l = record {
  left : min (l.count + length l._node-iterator) (2 ^ 64 - 1) ≡ row_count (map_of l.self.tree);
  fits : l.count ≤ 2 ^ 64 - 1;
}
