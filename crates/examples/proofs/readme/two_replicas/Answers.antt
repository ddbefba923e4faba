use Rattle.std.proofs.Common.{rules, inr}
use Rattle.examples.proofs.Outcomes.{where_err}
use Rattle.examples.proofs.readme.two_replicas.Goals as goal

-- the new replica holds the one row when the pulls begin
pub returns-in_err-pull_by_turns-clause-stopped : goal.returns-in_err-pull_by_turns-clause-stopped
returns-in_err-pull_by_turns-clause-stopped c =
    let error = c.in_err-pull_by_turns.field-0.0 in
    let stops = c.in_err-pull_by_turns.ensures in
    where_err c.from_residual-in_err-pull_by_turns.result _
    (inr (c.put.new.self, search rules, (error.finished.items, error.fault, c.pull_by_turns.new.a.rows, stops.fewer, stops.stopped)))
