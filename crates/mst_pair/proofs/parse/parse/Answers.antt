use Rattle.mst_pair.proofs.Fields.{bad_command}
use Rattle.mst_pair.proofs.parse.parse.Goals as goal

-- the word and its arguments spell no request
pub returns-in-Some-clause-none : goal.returns-in-Some-clause-none
returns-in-Some-clause-none c = bad_command _ c.command_of.result c.in-Some.word.now c.in-Some.arguments.now c.args.line.now c.in-Some.ensures.0 c.in-Some.ensures.1 c.command_of.ensures
