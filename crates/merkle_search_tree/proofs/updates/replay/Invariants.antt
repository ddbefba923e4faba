use Rattle.std.proofs.Common.{◌≡◌, [], ◌++◌, length, false, is_some}
use Rattle.std.specs.Vec.Iter.{into_iter_items, into_iter_len}
use Rattle.merkle_tree_theory.specs.State.{map_of}
use Rattle.merkle_search_tree.specs.Updates.{map_after, hashed_after, FreeAreAccepted}
use Rattle.merkle_search_tree.proofs.updates.replay.Given as goal

abbrev pub invariant-updates : goal.invariant-updates
invariant-updates g l = record {
  left : l.yielded ++ into_iter_items l.update-iterator ≡ l.fn.updates.items;
  count : into_iter_len l.update-iterator ≡ length (into_iter_items l.update-iterator);
  answers : length l.accepted.items ≡ length l.yielded;
  free : FreeAreAccepted g.K.Ord.cmp (g.H.Hasher-2.digest_of l.fn.builder.hasher) [] l.yielded l.accepted.items;
  map : map_of l.tree ≡ map_after g.K.Ord.cmp (g.H.Hasher-2.digest_of l.fn.builder.hasher) [] l.yielded l.accepted.items;
  hashed : is_some l.tree.root_hash ≡ hashed_after g.K.Ord.cmp (g.H.Hasher-2.digest_of l.fn.builder.hasher) [] false l.yielded l.accepted.items;
  hasher : l.tree.hasher ≡ l.fn.builder.hasher;
  base : l.tree.base ≡ l.fn.builder.base;
  format : l.tree.format ≡ l.fn.builder.format;
}
