use Rattle.std.proofs.Common.{◌≡◌, ◌++◌, length, take}
use Rattle.std.specs.List.{flat_map}
use Rattle.c_rows.specs.Values.{by_bytes_all}
use Rattle.c_values.specs.Lists.{number_bytes, sized_row, row_mark}
use Rattle.c_rows.proofs.list.encode.Given as goal

-- the first rows are written
abbrev pub invariant-rows : goal.invariant-rows
invariant-rows l = l.out.items ≡ (row_mark ++ number_bytes (length l.rows)) ++ flat_map sized_row (by_bytes_all (take l.row-index l.rows))
