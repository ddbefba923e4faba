use Rattle.std.proofs.Common.{◌≡◌, ◌++◌, length, map, take}
use Rattle.std.specs.List.{flat_map}
use Rattle.c_values.specs.Lists.{number_bytes, sized_row, row_mark}
use Rattle.c_sides.specs.Needs.{key_need}
use Rattle.c_sides.proofs.needs.list_keys.Given as goal

-- the needs of the first keys are written
abbrev pub invariant-keys : goal.invariant-keys
invariant-keys l = l.out.items ≡ (row_mark ++ number_bytes (length l.keys)) ++ flat_map sized_row (map key_need (take l.wanted-index l.keys))
