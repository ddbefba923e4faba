use Rattle.std.proofs.Common.{◌++◌, length}
use Rattle.merkle_diff.specs.DiffRange.{span, spans}
use Rattle.c_trees.specs.Wire.{span_bytes, key_mark}
use Rattle.c_values.specs.Lists.{number_bytes}
use Rattle.c_values.proofs.Lists.{one_more}
use Rattle.c_trees.proofs.wire.encode_found.Goals as goal

pub entries-preserved : goal.entries-preserved
entries-preserved c =
    one_more (λ r. span r) span_bytes c.args.found.now c.entries.range-index c.range-item.result (key_mark ++ number_bytes (length (spans c.args.found.now)))
    c.entries.out.items c.put_found.new.out.items c.entries-test.true c.range-item.is c.entries.invariant c.in_ok-put_found.ensures
