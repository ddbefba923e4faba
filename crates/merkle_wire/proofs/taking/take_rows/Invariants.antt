use Rattle.std.proofs.Common.{◌≡◌, ◌++◌, length}
use Rattle.std.specs.Vec.Iter.{into_iter_items, into_iter_len}
use Rattle.merkle_wire.specs.ItsRows.{ForRowsOf}
use Rattle.merkle_wire.proofs.taking.take_rows.Given as goal
use Rattle.merkle_wire.proofs.Lacking.{new_rows}

-- the rows so far are taken
abbrev pub invariant-rows : goal.invariant-rows
invariant-rows g l = record {
  left : l.yielded ++ into_iter_items l.row-iterator ≡ l.fn.rows.items;
  count : into_iter_len l.row-iterator ≡ length (into_iter_items l.row-iterator);
  steady : g.T.KeptTree.is_sound l.tree → g.T.KeptTree.is_sound l.fn.tree;
  kept : g.T.KeptTree.is_sound l.tree → g.T.KeptTree.kept l.tree ≡ g.T.KeptTree.kept l.fn.tree;
  taken : g.T.KeptTree.is_sound l.tree → ForRowsOf g.H.RowHasher.laws (g.T.KeptTree.kept l.fn.tree).digests (λ local.
      l.work ≡ record l.fn.work { rows = l.fn.work.rows ++ new_rows g.H.RowHasher.laws local l.yielded });
}
