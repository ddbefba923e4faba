use Rattle.std.proofs.Common.{rules, ◌≡◌, ◌<◌, ◌^◌, true, length, sym}
use Rattle.std.specs.List.{flat_map}
use Rattle.c_values.specs.Lists.{sized_row, row_mark}
use Rattle.c_trees.proofs.Lists.{same_body}
use Rattle.c_trees.proofs.Sets.{entries_from_rows, rows_from_entries}
use Rattle.c_values.proofs.Strings.{some_row}
use Rattle.c_trees.proofs.byte_tree.ByteTree.upsert_rows.Goals as goal

pub returns-in_err-count-clause-malformed : goal.returns-in_err-count-clause-malformed
returns-in_err-count-clause-malformed c is given e = c.body_of.ensures.none c.in_err-count.was (length given) (flat_map sized_row given) e

pub returns-then-not-is_list-clause-malformed : goal.returns-then-not-is_list-clause-malformed
returns-then-not-is_list-clause-malformed c is given e =
    let short : length c.args.list.now < 2 ^ 64 = search rules in
    let same = same_body sized_row some_row row_mark c.in_ok-count.count c.in_ok-count.body.now c.args.list.now given (search rules) short c.in_ok-count.ensures.body e in
    let listed : c.is_list.result ≡ true = c.is_list.ensures.1 (entries_from_rows c.in_ok-count.count c.in_ok-count.body.now (given, sym same.0, same.1)) in
    absurd (search rules)

pub set_rows-done-requires : goal.set_rows-done-requires
set_rows-done-requires c =
    let listed : c.is_list.result ≡ true = search rules in
    rows_from_entries c.in_ok-count.count c.in_ok-count.body.now (c.is_list.ensures.0 listed)
