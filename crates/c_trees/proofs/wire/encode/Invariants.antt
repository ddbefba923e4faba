use Rattle.std.proofs.Common.{◌≡◌, ◌++◌, length, take, map}
use Rattle.std.specs.List.{AllByRecursion, flat_map}
use Rattle.merkle_diff.specs.PageRange.{entries}
use Rattle.c_trees.specs.Lists.{IsPageRange, entry_by_bytes}
use Rattle.c_trees.specs.Wire.{range_entry, page_mark}
use Rattle.c_values.specs.Lists.{number_bytes}
use Rattle.c_trees.proofs.wire.encode.Given as goal

abbrev pub invariant-entries : goal.invariant-entries
invariant-entries l = record {
  written : l.out.items ≡ (page_mark ++ number_bytes (length (map entry_by_bytes (entries l.ranges)))) ++ flat_map range_entry (map entry_by_bytes (entries (take l.range-index l.ranges)));
  each : AllByRecursion IsPageRange (map entry_by_bytes (entries (take l.range-index l.ranges)));
}
