use Rattle.std.proofs.Common.{◌∙◌, arith}
use Rattle.csv.specs.Records.{fields_of}
use Rattle.mst_commands.proofs.MalformedLemmas.{late-time, no-digits, no-time}
use Rattle.mst_commands.proofs.records.time_of.Goals as goal

pub returns-in_default-clause-none : goal.returns-in_default-clause-none
returns-in_default-clause-none c = no-digits (fields_of c.args.row.now) (rw c.field.ensures at c.in_default.ensures.cases.0)

pub returns-in_default-parse-clause-none : goal.returns-in_default-parse-clause-none
returns-in_default-parse-clause-none c = no-time (fields_of c.args.row.now) (rw (c.in-Ok.ensures.cases.0 ∙ c.field.ensures) at c.in_default-parse.ensures.value.0)

pub returns-then-time-gt-LAST_TIME-clause-none : goal.returns-then-time-gt-LAST_TIME-clause-none
returns-then-time-gt-LAST_TIME-clause-none c =
    let parsed = rw (c.in-Ok.ensures.cases.0 ∙ c.field.ensures) at c.in-Ok-parse.ensures.value.0 in
    late-time (fields_of c.args.row.now) c.in-Ok-parse.time parsed.1 (omega arith)
