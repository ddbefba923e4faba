use Rattle.std.proofs.Common.{refl, rules}
use Rattle.mst_commands.proofs.change.Change.push.Goals as goal

pub returns-clause-waits : goal.returns-clause-waits
returns-clause-waits c = record {
  entry = (c.in_ok-key.key, record { time = c.len.result; writer = c.new.result; value = c.args.value });
  named = search rules;
  says = refl;
  place = search rules;
  waits = search rules;
}
