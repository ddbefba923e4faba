use Rattle.std.proofs.Common.{List, ℕ, ◌∷◌, ap, refl, string_bytes, sym, ◌∙◌, arith}
use Rattle.csv.specs.Records.{fields_of}
use Rattle.mst_commands.specs.Records.{field_or_empty}
use Rattle.mst_commands.proofs.CsvLemmas.{five_fields}
use Rattle.mst_commands.proofs.MalformedLemmas.{ends-with, no-change, no-log-key, no-writer}
use Rattle.mst_commands.proofs.records.log_entry_of.Goals as goal

pub returns-clause-says : goal.returns-clause-says
returns-clause-says c =
    let fields = fields_of c.args.row.now in
    let time = field_or_empty fields 1 in
    let key = string_bytes c.in_ok-key.key in
    let writer = string_bytes c.in_ok-writer.writer in
    let all = five_fields fields key time writer (field_or_empty fields 3) (field_or_empty fields 4) (omega arith) (sym c.in_ok-key.ensures.text) refl (sym c.in_ok-writer.ensures.text) refl refl in
    let change = c.in_ok-value.ensures.says in
    (time, c.in_ok-time.ensures.time, all ∙ ap (λ (change : List (List ℕ)). key ∷ time ∷ writer ∷ change) (sym change.0), change.1)

pub returns-in_err-key-clause-none : goal.returns-in_err-key-clause-none
returns-in_err-key-clause-none c =
    ends-with c.from_residual-in_err-key.result c.in_err-key.field-0.0 c.from_residual-in_err-key.ensures.1 (λ no. no) (no-log-key (fields_of c.args.row.now)) c.in_err-key.ensures.none

pub returns-in_err-writer-clause-none : goal.returns-in_err-writer-clause-none
returns-in_err-writer-clause-none c =
    ends-with c.from_residual-in_err-writer.result c.in_err-writer.field-0.0 c.from_residual-in_err-writer.ensures.1 (λ no. no) (no-writer (fields_of c.args.row.now)) c.in_err-writer.ensures.none

pub returns-in_err-value-clause-none : goal.returns-in_err-value-clause-none
returns-in_err-value-clause-none c =
    ends-with c.from_residual-in_err-value.result c.in_err-value.field-0.0 c.from_residual-in_err-value.ensures.1 (λ no. no) (no-change (fields_of c.args.row.now)) c.in_err-value.ensures.none
