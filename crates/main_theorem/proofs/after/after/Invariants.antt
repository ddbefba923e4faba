use Rattle.std.proofs.Common.{◌≡◌, ◌++◌, [], length}
use Rattle.std.specs.Vec.Iter.{into_iter_items, into_iter_len}
use Rattle.merkle_replica.proofs.SideLaws.{laws_of}
use Rattle.main_theorem.specs.After.{FreeUpdatesAreAccepted, rows_after}
use Rattle.merkle_replica.specs.Agreeing.{AreEqual}
use Rattle.main_theorem.proofs.after.after.Given as goal

abbrev pub invariant-updates : goal.invariant-updates
invariant-updates g l = record {
  left : l.yielded ++ into_iter_items l.update-iterator ≡ l.fn.updates.items;
  count : into_iter_len l.update-iterator ≡ length (into_iter_items l.update-iterator);
  answers : length l.accepted.items ≡ length l.yielded;
  free : FreeUpdatesAreAccepted (laws_of g.K.Ord.cmp g.K.KeyBytes.bytes_of g.H.Hasher-1.digest_of g.V.PartialEq.eq g.V.Join.join_of g.H.Hasher-2.digest_of) l.fn.builder [] l.yielded l.accepted.items;
  rows : AreEqual g.K.Ord.cmp g.V.PartialEq.eq l.replica.rows (rows_after g.K.Ord.cmp g.V.Join.join_of l.yielded l.accepted.items);
  hasher : l.replica.tree.hasher ≡ l.fn.builder.hasher;
  base : l.replica.tree.base ≡ l.fn.builder.base;
  format : l.replica.tree.format ≡ l.fn.builder.format;
}
