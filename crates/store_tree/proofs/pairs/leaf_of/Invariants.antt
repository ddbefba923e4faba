use Rattle.std.proofs.Common.{◌≡◌, ◌++◌, length, map}
use Rattle.std.specs.Vec.Iter.{into_iter_items, into_iter_len}
use Rattle.store_tree.specs.Maps.{leaf_node}
use Rattle.store_tree.proofs.pairs.leaf_of.Given as goal

abbrev pub invariant-pairs : goal.invariant-pairs
invariant-pairs l = record {
  left : l.yielded ++ into_iter_items l.key-iterator ≡ l.fn.pairs.items;
  count : into_iter_len l.key-iterator ≡ length (into_iter_items l.key-iterator);
  nodes : l.nodes.items ≡ map leaf_node l.yielded;
}
