use Rattle.std.proofs.Common.{rules, ◌≡◌, ◌<◌, ◌^◌, length, sym, Err}
use Rattle.std.specs.List.{flat_map}
use Rattle.c_trees.specs.Wire.{page_mark, range_entry}
use Rattle.c_values.specs.declared.reading.ListError.TheVariants.{Malformed}
use Rattle.c_trees.proofs.Lists.{same_body}
use Rattle.c_trees.proofs.Ranges.{some_entry}
use Rattle.c_trees.proofs.reading.decode.Goals as goal

pub returns-in_default-clause-malformed : goal.returns-in_default-clause-malformed
returns-in_default-clause-malformed c is es are = c.body_of.ensures.none c.in_default.is (length es) (flat_map range_entry es) are.0

pub returns-in_err-ranges-clause-malformed : goal.returns-in_err-ranges-clause-malformed
returns-in_err-ranges-clause-malformed c is es are =
    let was : c.ranges_of.result ≡ Err Malformed = search rules in
    let short : length c.args.bytes.now < 2 ^ 64 = search rules in
    let same = same_body range_entry some_entry page_mark c.in-Some.count c.in-Some.body.now c.args.bytes.now es (search rules) short c.in-Some.ensures.body are.0 in
    c.ranges_of.ensures.malformed was es are.1 (sym same.0) same.1
