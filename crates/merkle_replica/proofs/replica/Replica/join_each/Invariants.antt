use Rattle.std.proofs.Common.{◌≡◌, ◌++◌, length}
use Rattle.std.specs.Vec.Iter.{into_iter_items, into_iter_len}
use Rattle.merkle_replica.specs.Puts.{HasGathered}
use Rattle.merkle_replica.proofs.replica.Replica.join_each.Given as goal

-- the rows so far are gathered
abbrev pub invariant-joining : goal.invariant-joining
invariant-joining g l = record {
  left : l.yielded ++ into_iter_items l.row-iterator ≡ l.fn.theirs.items;
  count : into_iter_len l.row-iterator ≡ length (into_iter_items l.row-iterator);
  taken : length l.yielded ≡ l.done;
  gathers : HasGathered g.K.Ord.cmp g.V.PartialEq.eq g.V.Join.join_of l.fn.self.rows l.yielded l.self.rows;
  unchanged : l.done ≡ 0 → l.self.rows ≡ l.fn.self.rows;
  hasher : l.self.tree.hasher ≡ l.fn.self.tree.hasher;
  base : l.self.tree.base ≡ l.fn.self.tree.base;
  format : l.self.tree.format ≡ l.fn.self.tree.format;
}
