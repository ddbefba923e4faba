use Rattle.std.proofs.Common.{Some}
use Rattle.store_file.specs.Latest.{HasWriteOver, WritesOver}
use Rattle.store_file.proofs.Calls.{alike, writes_then}
use Rattle.store_file.proofs.latest.put.Goals as goal

pub returns-clause-written : goal.returns-clause-written
returns-clause-written g c =
    writes_then g.S.Store c.args.log.now c.find.new.log c.write_over.new.log (HasWriteOver c.args.key.now c.in_ok-found.found c.args.writer c.args.now (Some c.args.value))
    (WritesOver c.args.key.now c.args.writer c.args.now (Some c.args.value)) (λ clean trees write. (c.in_ok-found.found, c.in_ok-found.ensures.latest clean, write))
    _ _ _ c.in_ok-found.ensures.reads tt c.write_over.ensures.written (alike _)
