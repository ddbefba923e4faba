use Rattle.std.proofs.Common.{rules, arith, ◌<◌, ◌^◌, length, sym, ap, ◌∙◌}
use Rattle.c_trees.specs.Lists.{IsPageRange}
use Rattle.c_trees.specs.Wire.{range_entry}
use Rattle.c_trees.proofs.Lists.{one_left, none_left}
use Rattle.c_trees.proofs.Ranges.{entry_ends}
use Rattle.c_trees.proofs.reading.ranges_of.Goals as goal

pub returns-in_default-clause-malformed : goal.returns-in_default-clause-malformed
returns-in_default-clause-malformed c is es each count e =
    let kept = c.entries.invariant in let done = c.entries.ranges.items in
    let short : length c.args.body.now < 2 ^ 64 = search rules in
    let next = one_left IsPageRange range_entry entry_ends es done c.entries.rest.now each kept.each (omega (arith, kept.counted, count)) (omega (arith, ap length e)) (sym e ∙ kept.read) in
    c.range_of.ensures.none c.in_default.is next.0 next.1 next.2 next.3

pub returns-clause-malformed : goal.returns-clause-malformed
returns-clause-malformed c is es each count e =
    let kept = c.entries.invariant in let done = c.entries.ranges.items in
    let short : length c.args.body.now < 2 ^ 64 = search rules in
    c.all_read.ensures.malformed is
    (none_left IsPageRange range_entry entry_ends es done c.entries.rest.now each kept.each (omega (arith, kept.counted, count))
    (omega (arith, ap length e)) (sym e ∙ kept.read))
