use Rattle.std.proofs.Common.{◌≡◌, ◌+◌, ◌≤◌, ◌++◌, length, vec_len}
use Rattle.std.specs.Vec.{vec_capacity}
use Rattle.std.specs.Vec.Iter.{into_iter_items, into_iter_len}
use Rattle.std.specs.List.{AllByRecursion}
use Rattle.key_order.specs.Order.{Below}
use Rattle.merkle_replica.specs.Contents.{IsKept}
use Rattle.merkle_replica.specs.Parted.{whole}
use Rattle.merkle_replica.specs.Puts.{IsRising, HasGathered}
use Rattle.merkle_replica.proofs.merge.join_owned.Given as goal

-- the rows so far are gathered, and the rows before the place are below each that is to come
abbrev pub invariant-joining : goal.invariant-joining
invariant-joining g l = record {
  left : l.yielded ++ into_iter_items l.row-iterator ≡ l.fn.theirs.items;
  count : into_iter_len l.row-iterator ≡ length (into_iter_items l.row-iterator);
  taken : length l.yielded ≡ l.done;
  gathers : HasGathered g.K.Ord.cmp g.V.PartialEq.eq g.V.Join.join_of l.fn.rows.items l.yielded (whole l.rows.items l.back.items);
  unchanged : l.done ≡ 0 → whole l.rows.items l.back.items ≡ l.fn.rows.items;
  kept : IsKept g.K.Ord.cmp g.H.Hasher-2.digest_of (record { rows = whole l.rows.items l.back.items; tree = l.tree });
  rising : IsRising g.K.Ord.cmp (into_iter_items l.row-iterator);
  low : AllByRecursion (λ r. AllByRecursion (λ s. Below g.K.Ord.cmp s.0 r.0) l.rows.items) (into_iter_items l.row-iterator);
  room : vec_len l.rows + vec_len l.back + length (into_iter_items l.row-iterator) ≤ vec_capacity l.rows;
  hasher : l.tree.hasher ≡ l.fn.tree.hasher;
  base : l.tree.base ≡ l.fn.tree.base;
  format : l.tree.format ≡ l.fn.tree.format;
}
