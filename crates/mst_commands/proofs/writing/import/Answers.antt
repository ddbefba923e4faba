use Rattle.std.proofs.lemmas.Result.{err_from_is_err_and}
use Rattle.store_file.proofs.Calls.{writes_then}
use Rattle.store_rows.specs.InStep.{AddsInStep}
use Rattle.mst_commands.specs.Imports.{Imports}
use Rattle.mst_commands.proofs.writing.import.Goals as goal

pub returns-clause-written : goal.returns-clause-written
returns-clause-written g c =
    writes_then g.S.Store c.args.log.now c.entries_to_add.new.log c.add_beside.new.log (AddsInStep c.args.hash_key.now c.deref.result.now)
    (Imports c.args.came.items c.args.limit c.args.writer.now c.args.now)
    (λ clean trees adds. record { added = c.deref.result.now; chosen = (rw (← c.deref.ensures.value) at c.in_ok-added.ensures.added) clean; more = adds.more })
    _ _ _ c.in_ok-added.ensures.reads tt c.in_ok-add_beside.ensures.added tt

pub returns-in_err-add_beside-clause-written : goal.returns-in_err-add_beside-clause-written
returns-in_err-add_beside-clause-written g c =
    writes_then g.S.Store c.args.log.now c.entries_to_add.new.log c.add_beside.new.log (AddsInStep c.args.hash_key.now c.deref.result.now)
    (Imports c.args.came.items c.args.limit c.args.writer.now c.args.now)
    (λ clean trees adds. record { added = c.deref.result.now; chosen = (rw (← c.deref.ensures.value) at c.in_ok-added.ensures.added) clean; more = adds.more })
    _ _ _ c.in_ok-added.ensures.reads tt c.in_err-add_beside.ensures.added (rw (err_from_is_err_and c.from_residual-in_err-add_beside.result c.from_residual-in_err-add_beside.ensures.1).1 tt)
