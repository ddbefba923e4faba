use Rattle.std.proofs.Common.{◌++◌, ◌∷◌, [], Option, subst, ◌∙◌}
use Rattle.std.proofs.lemmas.Result.{err_from_is_err_and}
use Rattle.key_order.specs.Text.{Text as Key}
use Rattle.store_file.specs.Reading.{WalksOn}
use Rattle.store_file.specs.declared.register.Register.{Register}
use Rattle.store_file.proofs.Calls.{walk_reads, walk_then}
use Rattle.mst_commands.proofs.reading.sum_up.Goals as goal

pub returns-in_default-clause-numbers : goal.returns-in_default-clause-numbers
returns-in_default-clause-numbers g c clean =
    let (given, walked, numbers) = c.rows.invariant in
    (given, (c.in_ok-row.ensures.all c.in_default.is clean c.args.log.now given walked).0, numbers)

pub returns-in_default-clause-rows : goal.returns-in_default-clause-rows
returns-in_default-clause-rows g c clean =
    let (given, walked, numbers) = c.rows.invariant in
    c.count.ensures ∙ (c.in_ok-row.ensures.all c.in_default.is clean c.args.log.now given walked).1

pub returns-in_err-row-clause-reads : goal.returns-in_err-row-clause-reads
returns-in_err-row-clause-reads g c =
    let (given, walked, numbers) = c.rows.invariant in
    walk_then g.S.Store _ _ _ _ _ _ walked.read c.in_err-row.ensures.reads (rw (err_from_is_err_and c.from_residual-in_err-row.result c.from_residual-in_err-row.ensures.1).1 tt)

pub returns-in_default-clause-reads : goal.returns-in_default-clause-reads
returns-in_default-clause-reads g c =
    let (given, walked, numbers) = c.rows.invariant in
    walk_reads g.S.Store _ _ _ _ (c.in_ok-row.ensures.walked c.args.log.now given walked).read

pub returns-in_err-summary-clause-reads : goal.returns-in_err-summary-clause-reads
returns-in_err-summary-clause-reads g c =
    let (given, walked, numbers) = c.rows.invariant in
    walk_reads g.S.Store _ _ _ _ (c.in_ok-row.ensures.walked c.args.log.now given walked).read

pub returns-clause-reads : goal.returns-clause-reads
returns-clause-reads g c =
    let (given, walked, numbers) = c.rows.invariant in
    walk_reads g.S.Store _ _ _ _ walked.read

pub rows-preserved : goal.rows-preserved
rows-preserved g c =
    let (given, walked, numbers) = c.rows.invariant in
    let on = subst (λ (o : Option (Key × Register)). WalksOn g.S.Store c.rows.log c.next_latest.new.log c.rows.walk c.next_latest.new.walk o) c.in-Some.is c.in_ok-row.ensures.walked in
    (given ++ c.in-Some.row ∷ [], on c.args.log.now given walked, c.in_ok-summary.ensures.more given numbers)
