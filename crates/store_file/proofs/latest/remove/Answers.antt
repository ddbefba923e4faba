use Rattle.std.proofs.Common.{None}
use Rattle.store_file.specs.Latest.{HasWriteOver, WritesOver}
use Rattle.store_file.proofs.Calls.{alike, writes_then}
use Rattle.store_file.proofs.latest.remove.Goals as goal

pub returns-clause-crash : goal.returns-clause-crash
returns-clause-crash g c =
    (writes_then g.S.Store c.args.log.now c.find.new.log c.write_over.new.log (HasWriteOver c.args.key.now c.in_ok-found.found c.args.writer c.args.now None)
    (WritesOver c.args.key.now c.args.writer c.args.now None) (λ clean trees write. (c.in_ok-found.found, c.in_ok-found.ensures.latest clean, write))
    _ _ _ c.in_ok-found.ensures.reads tt c.write_over.ensures.written (alike _)).crash

pub returns-in_err-write_over-clause-crash : goal.returns-in_err-write_over-clause-crash
returns-in_err-write_over-clause-crash g c =
    (writes_then g.S.Store c.args.log.now c.find.new.log c.write_over.new.log (HasWriteOver c.args.key.now c.in_ok-found.found c.args.writer c.args.now None)
    (WritesOver c.args.key.now c.args.writer c.args.now None) (λ clean trees write. (c.in_ok-found.found, c.in_ok-found.ensures.latest clean, write))
    _ _ _ c.in_ok-found.ensures.reads tt c.write_over.ensures.written (alike _)).crash
