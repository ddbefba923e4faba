use Rattle.std.proofs.Common.{Some}
use Rattle.store_file.proofs.Calls.{alike, writes_as}
use Rattle.mst_commands.proofs.run.put_given.Goals as goal
use Rattle.mst_commands.specs.Carries.{Puts, value_of}
use Rattle.mst_commands.specs.Writes.{WritesBy, WritesIf}

-- without a condition
pub returns-in_default-clause-carried : goal.returns-in_default-clause-carried
returns-in_default-clause-carried g c =
    writes_as g.S.Store c.args.log.now c.put_value.new.log (WritesBy c.args.key.now c.args.writer.now c.in_ok-now.field-0 (Some c.in_ok-value.value))
    (Puts c.args.writer.now c.args.key.now (value_of c.args.input c.args.text.now) c.args.wanted) _ _
    (λ trees written. record { wanted = rw c.in_default.is tt; now = c.in_ok-now.field-0; value = c.in_ok-value.value; bytes = c.in_ok-value.ensures; written = written })
    (alike _) c.put_value.ensures.written

-- with one
pub returns-clause-carried : goal.returns-clause-carried
returns-clause-carried g c =
    writes_as g.S.Store c.args.log.now c.put_if.new.log (WritesIf c.in-Some.wanted c.args.key.now c.args.writer.now c.in_ok-now-2.field-0 (Some c.in_ok-value.value))
    (Puts c.args.writer.now c.args.key.now (value_of c.args.input c.args.text.now) c.args.wanted) _ _
    (λ trees both. record { wanted = rw c.in-Some.is both.0; now = c.in_ok-now-2.field-0; value = c.in_ok-value.value; bytes = c.in_ok-value.ensures; written = both.1 })
    (alike _) c.put_if.ensures.written
