use Rattle.std.proofs.Common.{None, string_bytes}
use Rattle.store_file.specs.Latest.{WritesOver}
use Rattle.store_file.proofs.Calls.{leaves_as, writes_none}
use Rattle.mst_commands.specs.Writes.{WritesBy}
use Rattle.mst_commands.proofs.writing.del.Goals as goal

pub returns-then-there-clause-written : goal.returns-then-there-clause-written
returns-then-there-clause-written g c =
    let did = c.in_ok-there.ensures.removed in
    record {
      made = λ clean. (c.in_ok-writer.writer, c.in_ok-writer.ensures.ok, rw c.in_ok-key.ensures.ok at ((did.made clean).removed c.if-there.true));
      refused = λ clean o. tt;
      steady = did.steady;
      crash = leaves_as g.S.Store c.args.log.now c.remove.new.log (WritesOver (string_bytes c.in_ok-key.key) c.in_ok-writer.writer c.args.now None)
          (WritesBy c.args.key.now c.args.writer.now c.args.now None) (λ trees write. (c.in_ok-writer.writer, c.in_ok-writer.ensures.ok, rw c.in_ok-key.ensures.ok at write)) did.crash;
    }

pub returns-else-there-clause-written : goal.returns-else-there-clause-written
returns-else-there-clause-written g c =
    let did = c.in_ok-there.ensures.removed in
    record {
      made = λ clean. tt;
      refused = λ clean o. (did.made clean).absent c.if-there.false;
      steady = did.steady;
      crash = leaves_as g.S.Store c.args.log.now c.remove.new.log (WritesOver (string_bytes c.in_ok-key.key) c.in_ok-writer.writer c.args.now None)
          (WritesBy c.args.key.now c.args.writer.now c.args.now None) (λ trees write. (c.in_ok-writer.writer, c.in_ok-writer.ensures.ok, rw c.in_ok-key.ensures.ok at write)) did.crash;
    }

pub returns-in_err-there-clause-written : goal.returns-in_err-there-clause-written
returns-in_err-there-clause-written g c =
    let did = c.in_err-there.ensures.removed in
    writes_none g.S.Store c.args.log.now c.remove.new.log _ (WritesBy c.args.key.now c.args.writer.now c.args.now None) _ c.from_residual-in_err-there.ensures.1
    did.refused did.steady
    (leaves_as g.S.Store c.args.log.now c.remove.new.log (WritesOver (string_bytes c.in_ok-key.key) c.in_ok-writer.writer c.args.now None) (WritesBy c.args.key.now c.args.writer.now c.args.now None)
    (λ trees write. (c.in_ok-writer.writer, c.in_ok-writer.ensures.ok, rw c.in_ok-key.ensures.ok at write)) did.crash)
