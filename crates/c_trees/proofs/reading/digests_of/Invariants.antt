use Rattle.std.proofs.Common.{◌≡◌, ◌++◌, length, map}
use Rattle.std.specs.List.{AllByRecursion, flat_map}
use Rattle.c_trees.specs.Lists.{HasDigest}
use Rattle.c_values.specs.Keys.{by_key}
use Rattle.c_trees.specs.Wire.{digest_bytes}
use Rattle.c_trees.proofs.reading.digests_of.Given as goal

-- the keys so far were read, and the rest is still to be
abbrev pub invariant-entries : goal.invariant-entries
invariant-entries l = record {
  read : l.body ≡ flat_map digest_bytes (map by_key l.rows.items) ++ l.rest;
  each : AllByRecursion HasDigest (map by_key l.rows.items);
  counted : length (map by_key l.rows.items) ≡ l._done;
}
