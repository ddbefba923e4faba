use Rattle.std.proofs.Common.{◌≡◌, ◌<◌, List, length, take, flat_map, true, subst, arith}
use Rattle.std.proofs.lemmas.List.{take_all}
use Rattle.key_order.specs.Text.{Text as Key}
use Rattle.csv.specs.Writing.{row_text, default_writer}
use Rattle.store_file.specs.declared.register.Register.{Register}
use Rattle.store_file.proofs.Outcomes.{if_ok}
use Rattle.mst_commands.specs.Records.{header, entry_text, log_text, IsBeforeRecord, WritesRecords}
use Rattle.mst_commands.proofs.LineLemmas.{pieces_more}
use Rattle.mst_commands.proofs.CsvLemmas.{writes_then, writes_none, written_all}
use Rattle.mst_commands.proofs.log.write_log.Goals as goal

pub entries-init : goal.entries-init
entries-init g c = writes_none g.W.Write.contents c.write_five.new.writer

pub entries-preserved : goal.entries-preserved
entries-preserved g c =
    let i = c.entries.entry-index in
    let rows = c.args.entries.now in
    let low : i < length rows = omega arith in
    let more = pieces_more entry_text rows i c.entry-item.result low c.entry-item.is in
    subst (WritesRecords g.W.Write.contents c.write_five.new.writer c.write_entry.new.writer) more
    (writes_then g.W.Write.contents c.write_five.new.writer c.entries.writer c.write_entry.new.writer _ (entry_text c.entry-item.result) c.entries.invariant c.in_ok-write_entry.ensures.written)

pub returns-clause-written : goal.returns-clause-written
returns-clause-written g c =
    let contents = g.W.Write.contents in
    let first = c.from_writer-writer.result in
    let fresh : IsBeforeRecord first = record { setup = c.from_writer-writer.ensures.cfg; fields = c.from_writer-writer.ensures.fields; wrote = c.from_writer-writer.ensures.wrote } in
    let all : take c.entries.entry-index c.args.entries.now ≡ c.args.entries.now = take_all c.entries.entry-index c.args.entries.now (omega arith) in
    let told = subst (λ (items : List (Key × Register)). WritesRecords contents c.write_five.new.writer c.entries.writer (flat_map entry_text items)) all c.entries.invariant in
    let wrote = writes_then contents first c.write_five.new.writer c.entries.writer (row_text default_writer (header true))
    (flat_map entry_text c.args.entries.now) (rw c.as_bytes.ensures.value at c.in_ok-write_five.ensures.written) told fresh in
    if_ok c.finish.result _ _ (λ out kept. written_all contents c.args.out out first c.entries.writer
    (log_text c.args.entries.now) c.from_writer-writer.ensures.wtr c.from_writer-writer.ensures.empty wrote.1 kept)
    c.finish.ensures.kept
