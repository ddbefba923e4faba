use Rattle.std.proofs.Common.{Some}
use Rattle.store_file.proofs.Calls.{alike, writes_then}
use Rattle.mst_commands.proofs.writing.put_if.Goals as goal
use Rattle.mst_commands.specs.Writes.{WritesBy, WritesIf}

pub returns-clause-written : goal.returns-clause-written
returns-clause-written g c =
    writes_then g.S.Store c.args.log.now c.expect.new.log c.put_value.new.log (WritesBy c.args.key.now c.args.writer.now c.args.now (Some c.args.value))
    (WritesIf c.args.wanted c.args.key.now c.args.writer.now c.args.now (Some c.args.value)) (λ clean trees write. (c.in_ok-expect.ensures.met clean, write))
    _ _ _ c.in_ok-expect.ensures.reads tt c.put_value.ensures.written (alike _)
