use Rattle.store_file.proofs.Outcomes.{on_ok}
use Rattle.mst_commands.proofs.change.Change.put.Goals as goal

pub returns-clause-waits : goal.returns-clause-waits
returns-clause-waits c = on_ok c.push.result _ _ (λ waits. (c.in_ok-text.text, c.in_ok-text.ensures.ok, waits)) c.push.ensures.waits
