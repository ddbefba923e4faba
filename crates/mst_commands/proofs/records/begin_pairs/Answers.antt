use Rattle.std.proofs.Common.{false, sym, subst}
use Rattle.std.proofs.lemmas.List.{append-nil}
use Rattle.csv.specs.Writing.{row_text, default_writer}
use Rattle.mst_commands.specs.Records.{header, WritesRecords}
use Rattle.mst_commands.proofs.records.begin_pairs.Goals as goal

pub returns-clause-begun : goal.returns-clause-begun
returns-clause-begun g c =
    let made = c.from_writer-writer.ensures in (
      c.from_writer-writer.result,
      record { before = record { setup = made.cfg; fields = made.fields; wrote = made.wrote }; under = made.wtr; empty = made.empty },
      subst (WritesRecords g.W.Write.contents c.from_writer-writer.result c.write_pair.new.writer) (sym (append-nil (row_text default_writer (header false))))
          (rw c.as_bytes.ensures.value at c.in_ok-write_pair.ensures.written),
    )
