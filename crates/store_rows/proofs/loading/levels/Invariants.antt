use Rattle.std.proofs.Common.{◌≡◌, ◌++◌, length, map}
use Rattle.std.specs.Vec.Iter.{into_iter_items, into_iter_len}
use Rattle.store_rows.specs.Loads.{level_row}
use Rattle.store_rows.proofs.loading.levels.Given as goal

abbrev pub invariant-rows : goal.invariant-rows
invariant-rows l = record {
  left : l.yielded ++ into_iter_items l.key-iterator ≡ l.fn.rows.items;
  count : into_iter_len l.key-iterator ≡ length (into_iter_items l.key-iterator);
  keys : l.keys.items ≡ map (level_row l.fn.hasher) l.yielded;
}
