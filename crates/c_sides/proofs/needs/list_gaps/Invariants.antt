use Rattle.std.proofs.Common.{◌≡◌, ◌++◌, length, map, take}
use Rattle.std.specs.List.{flat_map}
use Rattle.c_values.specs.Lists.{number_bytes, sized_row, row_mark}
use Rattle.c_sides.specs.Needs.{gap_need}
use Rattle.c_sides.proofs.needs.list_gaps.Given as goal

-- the needs of the first gaps are written
abbrev pub invariant-gaps : goal.invariant-gaps
invariant-gaps l = l.out.items ≡ (row_mark ++ number_bytes (length l.gaps)) ++ flat_map sized_row (map gap_need (take l.gap-index l.gaps))
