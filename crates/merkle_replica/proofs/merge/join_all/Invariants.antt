use Rattle.std.proofs.Common.{◌≡◌, ℕ, ◌+◌, ◌<◌, ◌≤◌, true, drop, length, get_or, vec_len}
use Rattle.std.specs.Vec.{vec_capacity}
use Rattle.std.specs.List.{AllByRecursion}
use Rattle.key_order.specs.Order.{Below}
use Rattle.merkle_replica.specs.Answers.{spans_of}
use Rattle.merkle_replica.specs.Contents.{IsKept}
use Rattle.merkle_replica.specs.Parted.{whole}
use Rattle.merkle_replica.specs.Seek.{begins_upto}
use Rattle.merkle_replica.proofs.RowsInRanges.{Joins}
use Rattle.merkle_replica.proofs.merge.join_all.Given as goal

-- the rows found so far are joined, what is left of the ranges holds those that are still to be found, and the rows before the place
-- are below each that is to come in the first range or after it
abbrev pub invariant-joining : goal.invariant-joining
invariant-joining g l = record {
  inside : l.at ≤ length l.ranges;
  joins : Joins g.K.Ord.cmp g.met.K.Ord.total g.V.PartialEq.eq g.met.V.Eq.laws g.V.Join.join_of g.met.V.Join.joining (spans_of l.ranges) l.theirs
      (drop l.at (spans_of l.ranges)) l.row-index l.fn.rows.items l.done (whole l.rows.items l.back.items);
  few : l.done ≤ l.row-index;
  kept : IsKept g.K.Ord.cmp g.H.Hasher-2.digest_of (record { rows = whole l.rows.items l.back.items; tree = l.tree });
  low : (j : ℕ) (d : g.row.K.Denot × g.row.V.Denot) → l.row-index ≤ j → j < length l.theirs
      → begins_upto g.K.Ord.cmp (get_or l.theirs j d).0 (spans_of l.ranges) ≡ true → AllByRecursion (λ s. Below g.K.Ord.cmp s.0 (get_or l.theirs j d).0) l.rows.items;
  room : vec_len l.rows + vec_len l.back + l.joined ≤ vec_capacity l.rows + l.done;
  hasher : l.tree.hasher ≡ l.fn.tree.hasher;
  base : l.tree.base ≡ l.fn.tree.base;
  format : l.tree.format ≡ l.fn.tree.format;
}
