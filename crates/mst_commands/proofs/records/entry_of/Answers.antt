use Rattle.std.proofs.Common.{string_bytes, refl, sym, arith}
use Rattle.csv.specs.Records.{fields_of}
use Rattle.store_file.specs.Values.{bytes_of_value}
use Rattle.mst_commands.proofs.CsvLemmas.{two_fields}
use Rattle.mst_commands.proofs.MalformedLemmas.{ends-with, no-key, long-text}
use Rattle.mst_commands.proofs.records.entry_of.Goals as goal

pub returns-clause-says : goal.returns-clause-says
returns-clause-says c = record {
  fields = (
    two_fields (fields_of c.args.row.now) (string_bytes c.in_ok-key.key) (bytes_of_value c.in_ok-value.value) (omega arith) (sym c.in_ok-key.ensures.text) (sym c.in_ok-value.ensures.value.same),
    c.in_ok-value.ensures.value.formed,
  );
  time = refl;
  writer = c.new-writer.ensures.bytes;
}

pub returns-in_err-key-clause-none : goal.returns-in_err-key-clause-none
returns-in_err-key-clause-none c =
    ends-with c.from_residual.result c.in_err-key.field-0.0 c.from_residual.ensures.1 (λ no. no) (no-key (fields_of c.args.row.now)) c.in_err-key.ensures.none

pub returns-in_err-value-clause-none : goal.returns-in_err-value-clause-none
returns-in_err-value-clause-none c =
    ends-with c.from_residual-in_err-value.result c.in_err-value.field-0.0 c.from_residual-in_err-value.ensures.1 (λ no. no) (long-text (fields_of c.args.row.now)) c.in_err-value.ensures.long
