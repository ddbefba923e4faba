use Rattle.std.proofs.Common.{sym}
use Rattle.std.proofs.lemmas.Result.{err_from_is_err_and}
use Rattle.store_file.specs.Rows.{IsCompacted}
use Rattle.store_file.proofs.Calls.{writes_as}
use Rattle.mst_commands.proofs.run.compact_older.Goals as goal
use Rattle.mst_commands.proofs.run.compact_older.Goals.{in-Some+in_ok-now-in-Some, in-None}
use Rattle.mst_commands.specs.Carries.{Compacts}

pub returns-in_err-compact-clause-carried : goal.returns-in_err-compact-clause-carried
returns-in_err-compact-clause-carried g c =
    elim c.match-forget.branch [
      | in-Some+in_ok-now-in-Some w ↦
          writes_as g.S.Store c.args.log.now c.compact.new.log (IsCompacted c.match-forget.before) (Compacts c.args.forget) _ _
          (λ trees done. (w.in_ok-now-in-Some.field-0, rw w.in-Some.is (rw (sym w.saturating_sub-before.ensures) (rw (sym w.before-is) done))))
          (rw (err_from_is_err_and c.from_residual-in_err-compact.result c.from_residual-in_err-compact.ensures.1).1 tt) c.in_err-compact.ensures.compacted
      | in-None w ↦
          writes_as g.S.Store c.args.log.now c.compact.new.log (IsCompacted c.match-forget.before) (Compacts c.args.forget) _ _
          (λ trees done. (0, rw w.in-None.is (rw (sym w.before-is) done)))
          (rw (err_from_is_err_and c.from_residual-in_err-compact.result c.from_residual-in_err-compact.ensures.1).1 tt) c.in_err-compact.ensures.compacted
    ]

pub returns-clause-carried : goal.returns-clause-carried
returns-clause-carried g c =
    elim c.match-forget.branch [
      | in-Some+in_ok-now-in-Some w ↦
          writes_as g.S.Store c.args.log.now c.compact.new.log (IsCompacted c.match-forget.before) (Compacts c.args.forget) _ _
          (λ trees done. (w.in_ok-now-in-Some.field-0, rw w.in-Some.is (rw (sym w.saturating_sub-before.ensures) (rw (sym w.before-is) done)))) tt c.in_ok-compact.ensures.compacted
      | in-None w ↦
          writes_as g.S.Store c.args.log.now c.compact.new.log (IsCompacted c.match-forget.before) (Compacts c.args.forget) _ _
          (λ trees done. (0, rw w.in-None.is (rw (sym w.before-is) done))) tt c.in_ok-compact.ensures.compacted
    ]
