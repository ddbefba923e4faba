use Rattle.std.proofs.Common.{◌++◌, length}
use Rattle.c_values.specs.Lists.{number_bytes, sized_row, row_mark}
use Rattle.c_values.proofs.Lists.{one_more}
use Rattle.c_sides.specs.Needs.{key_need}
use Rattle.c_sides.proofs.needs.list_keys.Goals as goal

pub keys-preserved : goal.keys-preserved
keys-preserved c =
    one_more key_need sized_row c.args.keys.now c.keys.wanted-index c.wanted-item.result (row_mark ++ number_bytes (length c.args.keys.now))
    c.keys.out.items c.put_key.new.out.items c.keys-test.true c.wanted-item.is c.keys.invariant c.in_ok-put_key.ensures
