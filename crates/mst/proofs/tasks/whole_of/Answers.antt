use Rattle.std.proofs.lemmas.Result.{err_from_is_err_and}
use Rattle.store_file.proofs.Calls.{reads_then}
use Rattle.mst.proofs.tasks.whole_of.Goals as goal

pub returns-clause-reads : goal.returns-clause-reads
returns-clause-reads g c = reads_then g.S.Store _ _ _ _ _ _ c.in_ok-note.ensures.reads tt c.in_ok-entries.ensures.reads tt

pub returns-in_err-entries-clause-reads : goal.returns-in_err-entries-clause-reads
returns-in_err-entries-clause-reads g c = reads_then g.S.Store _ _ _ _ _ _ c.in_ok-note.ensures.reads tt c.in_err-entries.ensures.reads
    (rw (err_from_is_err_and c.from_residual-in_err-entries.result c.from_residual-in_err-entries.ensures.1).1 tt)
