use Rattle.std.proofs.Common.{◌++◌, length}
use Rattle.c_rows.specs.Values.{by_bytes}
use Rattle.c_values.specs.Lists.{number_bytes, sized_row, row_mark}
use Rattle.c_values.proofs.Lists.{one_more}
use Rattle.c_rows.proofs.list.encode.Goals as goal

pub rows-preserved : goal.rows-preserved
rows-preserved c =
    one_more by_bytes sized_row c.args.rows.now c.rows.row-index c.row-item.result (row_mark ++ number_bytes (length c.args.rows.now))
    c.rows.out.items c.put_row.new.out.items c.rows-test.true c.row-item.is c.rows.invariant c.in_ok-put_row.ensures
