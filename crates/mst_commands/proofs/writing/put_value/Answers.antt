use Rattle.std.proofs.Common.{Some, string_bytes}
use Rattle.std.proofs.lemmas.Result.{err_from_is_err_and}
use Rattle.store_file.specs.Latest.{WritesOver}
use Rattle.store_file.proofs.Calls.{writes_as}
use Rattle.mst_commands.specs.Writes.{WritesBy}
use Rattle.mst_commands.proofs.writing.put_value.Goals as goal

pub returns-clause-written : goal.returns-clause-written
returns-clause-written g c =
    writes_as g.S.Store c.args.log.now c.put.new.log (WritesOver (string_bytes c.in_ok-key.key) c.in_ok-writer.writer c.args.now (Some c.args.value))
    (WritesBy c.args.key.now c.args.writer.now c.args.now (Some c.args.value)) _ _
    (λ trees write. (c.in_ok-writer.writer, c.in_ok-writer.ensures.ok, rw c.in_ok-key.ensures.ok at write)) tt c.in_ok-put.ensures.written

pub returns-in_err-put-clause-written : goal.returns-in_err-put-clause-written
returns-in_err-put-clause-written g c =
    writes_as g.S.Store c.args.log.now c.put.new.log (WritesOver (string_bytes c.in_ok-key.key) c.in_ok-writer.writer c.args.now (Some c.args.value))
    (WritesBy c.args.key.now c.args.writer.now c.args.now (Some c.args.value)) _ _
    (λ trees write. (c.in_ok-writer.writer, c.in_ok-writer.ensures.ok, rw c.in_ok-key.ensures.ok at write))
    (rw (err_from_is_err_and c.from_residual-in_err-put.result c.from_residual-in_err-put.ensures.1).1 tt) c.in_err-put.ensures.written
