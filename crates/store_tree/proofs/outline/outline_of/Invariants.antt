use Rattle.std.proofs.Common.{◌≡◌, ◌++◌, length, map}
use Rattle.std.specs.Vec.Iter.{into_iter_items, into_iter_len}
use Rattle.store_tree.specs.Outlines.{told_node}
use Rattle.store_tree.proofs.outline.outline_of.Given as goal

abbrev pub invariant-nodes : goal.invariant-nodes
invariant-nodes l = record {
  left : l.yielded ++ into_iter_items l.before-iterator ≡ l.fn.page.nodes.items;
  count : into_iter_len l.before-iterator ≡ length (into_iter_items l.before-iterator);
  nodes : l.nodes.items ≡ map told_node l.yielded;
}
