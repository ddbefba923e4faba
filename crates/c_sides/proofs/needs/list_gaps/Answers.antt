use Rattle.std.proofs.Common.{◌++◌, length}
use Rattle.c_values.specs.Lists.{number_bytes, sized_row, row_mark}
use Rattle.c_values.proofs.Lists.{one_more}
use Rattle.c_sides.specs.Needs.{gap_need}
use Rattle.c_sides.proofs.needs.list_gaps.Goals as goal

pub gaps-preserved : goal.gaps-preserved
gaps-preserved c =
    one_more gap_need sized_row c.args.gaps.now c.gaps.gap-index c.gap-item.result (row_mark ++ number_bytes (length c.args.gaps.now))
    c.gaps.out.items c.put_gap.new.out.items c.gaps-test.true c.gap-item.is c.gaps.invariant c.in_ok-put_gap.ensures
