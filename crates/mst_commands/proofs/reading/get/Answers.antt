use Rattle.std.proofs.Common.{subst, Option}
use Rattle.store_file.specs.Logs.{trees_of}
use Rattle.store_file.specs.declared.value.Value.{Value}
use Rattle.store_file.proofs.Outcomes.{on_ok}
use Rattle.mst_commands.specs.Reads.{IsValueAt}
use Rattle.mst_commands.proofs.reading.get.Goals as goal

pub returns-in-Some-clause-written : goal.returns-in-Some-clause-written
returns-in-Some-clause-written g c clean =
    let trees = trees_of g.S.Store c.args.log.now in
    let said = subst (λ (o : Option Value). IsValueAt trees c.args.key.now o) c.in-Some.is (c.in_ok-said.ensures.said clean) in
    on_ok c.write_ended.result _ _ (λ app. (c.in-Some.value, said, app)) (rw c.as_bytes.ensures at c.write_ended.ensures.bytes)
