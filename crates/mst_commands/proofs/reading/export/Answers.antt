use Rattle.std.proofs.Common.{◌++◌, ◌∷◌, [], Option, subst}
use Rattle.std.proofs.lemmas.Result.{err_from_is_err_and}
use Rattle.key_order.specs.Text.{Text as Key}
use Rattle.store_file.proofs.Calls.{walk_reads, walk_then}
use Rattle.store_file.proofs.Outcomes.{if_ok}
use Rattle.store_file.specs.Reading.{WalksOn}
use Rattle.store_file.specs.declared.register.Register.{Register}
use Rattle.mst_commands.specs.Records.{pair_text, pairs_text}
use Rattle.mst_commands.proofs.CsvLemmas.{written_more, written_out}
use Rattle.mst_commands.proofs.ReadLemmas.{pairs_more}
use Rattle.mst_commands.proofs.reading.export.Goals as goal

pub returns-in_default-clause-written : goal.returns-in_default-clause-written
returns-in_default-clause-written g c clean =
    let (given, walked, wrote) = c.rows.invariant in
    let all = c.in_ok-row.ensures.all c.in_default.is clean c.args.log.now given walked in
    if_ok c.finish.result _ _ (λ out kept. (given, all.0, written_out g.W.Write.contents c.args.out out c.rows.writer (pairs_text given) wrote kept)) c.finish.ensures.kept

pub returns-in_err-row-clause-reads : goal.returns-in_err-row-clause-reads
returns-in_err-row-clause-reads g c =
    let (given, walked, wrote) = c.rows.invariant in
    walk_then g.S.Store _ _ _ _ _ _ walked.read c.in_err-row.ensures.reads (rw (err_from_is_err_and c.from_residual-in_err-row.result c.from_residual-in_err-row.ensures.1).1 tt)

pub returns-in_default-clause-reads : goal.returns-in_default-clause-reads
returns-in_default-clause-reads g c =
    let (given, walked, wrote) = c.rows.invariant in
    walk_reads g.S.Store _ _ _ _ (c.in_ok-row.ensures.walked c.args.log.now given walked).read

pub returns-in_err-write_row-clause-reads : goal.returns-in_err-write_row-clause-reads
returns-in_err-write_row-clause-reads g c =
    let (given, walked, wrote) = c.rows.invariant in
    walk_reads g.S.Store _ _ _ _ (c.in_ok-row.ensures.walked c.args.log.now given walked).read

pub returns-clause-reads : goal.returns-clause-reads
returns-clause-reads g c =
    let (given, walked, wrote) = c.rows.invariant in
    walk_reads g.S.Store _ _ _ _ walked.read

pub rows-preserved : goal.rows-preserved
rows-preserved g c =
    let (given, walked, wrote) = c.rows.invariant in
    let row = c.in-Some.row in
    let on = subst (λ (o : Option (Key × Register)). WalksOn g.S.Store c.rows.log c.next_latest.new.log c.rows.walk c.next_latest.new.walk o) c.in-Some.is c.in_ok-row.ensures.walked in (
      given ++ row ∷ [],
      on c.args.log.now given walked,
      written_more g.W.Write.contents c.args.out c.rows.writer c.write_row.new.writer (pairs_text given)
          (pair_text row) _ wrote c.in_ok-write_row.ensures.written (pairs_more given row),
    )
