use Rattle.std.proofs.Common.{◌≡◌, ◌+◌, length, map}
use Rattle.std.specs.List.{AllByRecursion, flat_map}
use Rattle.c_trees.specs.Lists.{IsPageRange, entry_by_bytes}
use Rattle.c_trees.specs.Wire.{range_entry}
use Rattle.c_trees.proofs.wire.encoded_len.Given as goal

-- the bytes that were counted and those of the ranges that are left are all, and all are page ranges where those are that are left
abbrev pub invariant-entries : goal.invariant-entries
invariant-entries l = record {
  len : l.len + length (flat_map range_entry (map entry_by_bytes l.range-iterator)) ≡ 12 + length (flat_map range_entry (map entry_by_bytes l.initial.range-iterator));
  each : AllByRecursion IsPageRange (map entry_by_bytes l.range-iterator) → AllByRecursion IsPageRange (map entry_by_bytes l.initial.range-iterator);
}
