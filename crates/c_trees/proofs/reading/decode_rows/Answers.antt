use Rattle.std.proofs.Common.{rules, ◌<◌, ◌^◌, length, sym}
use Rattle.std.specs.List.{flat_map}
use Rattle.c_values.specs.Lists.{row_mark, sized_row}
use Rattle.c_trees.proofs.Lists.{same_body}
use Rattle.c_values.proofs.Strings.{some_row}
use Rattle.c_trees.proofs.reading.decode_rows.Goals as goal

pub returns-in_default-clause-malformed : goal.returns-in_default-clause-malformed
returns-in_default-clause-malformed c is given e = c.body_of.ensures.none c.in_default.is (length given) (flat_map sized_row given) e

pub returns-clause-malformed : goal.returns-clause-malformed
returns-clause-malformed c is given e =
    let short : length c.args.bytes.now < 2 ^ 64 = search rules in
    let same = same_body sized_row some_row row_mark c.in-Some.count c.in-Some.body.now c.args.bytes.now given (search rules) short c.in-Some.ensures.body e in
    c.rows_of.ensures.malformed is given (sym same.0) same.1
