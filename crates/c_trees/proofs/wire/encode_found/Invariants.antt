use Rattle.std.proofs.Common.{◌≡◌, ◌++◌, length, take}
use Rattle.std.specs.List.{flat_map}
use Rattle.merkle_diff.specs.DiffRange.{spans}
use Rattle.c_trees.specs.Wire.{span_bytes, key_mark}
use Rattle.c_values.specs.Lists.{number_bytes}
use Rattle.c_trees.proofs.wire.encode_found.Given as goal

abbrev pub invariant-entries : goal.invariant-entries
invariant-entries l = l.out.items ≡ (key_mark ++ number_bytes (length (spans l.found))) ++ flat_map span_bytes (spans (take l.range-index l.found))
