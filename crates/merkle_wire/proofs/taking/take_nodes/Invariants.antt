use Rattle.std.proofs.Common.{◌≡◌, ◌++◌, length}
use Rattle.std.specs.Vec.Iter.{into_iter_items, into_iter_len}
use Rattle.merkle_wire.specs.ItsRows.{ForRowsOf}
use Rattle.merkle_wire.specs.Steps.{nodes_read}
use Rattle.merkle_wire.specs.Taking.{new_keys}
use Rattle.merkle_wire.proofs.taking.take_nodes.Given as goal

-- the nodes so far are taken
abbrev pub invariant-nodes : goal.invariant-nodes
invariant-nodes g l = record {
  left : l.yielded ++ into_iter_items l.node-iterator ≡ l.fn.nodes.items;
  count : into_iter_len l.node-iterator ≡ length (into_iter_items l.node-iterator);
  steady : g.T.KeptTree.is_sound l.tree → g.T.KeptTree.is_sound l.fn.tree;
  kept : g.T.KeptTree.is_sound l.tree → g.T.KeptTree.kept l.tree ≡ g.T.KeptTree.kept l.fn.tree;
  taken : g.T.KeptTree.is_sound l.tree → ForRowsOf g.H.RowHasher.laws (g.T.KeptTree.kept l.fn.tree).digests (λ local.
      l.work ≡ record l.fn.work { wanted = l.fn.work.wanted ++ new_keys g.H.RowHasher.laws local (nodes_read l.yielded) });
}
