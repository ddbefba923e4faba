use Rattle.std.proofs.Common.{◌≡◌, ◌++◌, length}
use Rattle.std.specs.List.{flat_map}
use Rattle.c_rows.specs.Values.{by_bytes_all}
use Rattle.c_values.specs.Lists.{sized_row}
use Rattle.c_rows.proofs.reading.rows_of.Given as goal

-- the rows so far were read, and the rest is still to be
abbrev pub invariant-entries : goal.invariant-entries
invariant-entries l = record {
  read : l.body ≡ flat_map sized_row (by_bytes_all l.rows.items) ++ l.rest;
  counted : length (by_bytes_all l.rows.items) ≡ l._done;
}
