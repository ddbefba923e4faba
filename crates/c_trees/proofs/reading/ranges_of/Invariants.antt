use Rattle.std.proofs.Common.{◌≡◌, ◌++◌, length}
use Rattle.std.specs.List.{AllByRecursion, flat_map}
use Rattle.c_trees.specs.Lists.{IsPageRange}
use Rattle.c_trees.specs.Wire.{range_entry}
use Rattle.c_trees.proofs.reading.ranges_of.Given as goal

-- the ranges so far were read, and the rest is still to be
abbrev pub invariant-entries : goal.invariant-entries
invariant-entries l = record {
  read : l.body ≡ flat_map range_entry l.ranges.items ++ l.rest;
  each : AllByRecursion IsPageRange l.ranges.items;
  counted : length l.ranges.items ≡ l._done;
}
