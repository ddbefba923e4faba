use Rattle.std.proofs.lemmas.Result.{IfOk-weaker}
use Rattle.examples.proofs.sessions.found_again.Goals as goal

-- both answers are that of the one walk over the two lists
pub returns : goal.returns
returns g c = IfOk-weaker c.diff_snapshots.result _ _ (λ found is. c.the_exact_walk_has_one_answer.ensures _ _ _ _ c.requires.exact_walk is.exact_walk) c.diff_snapshots.ensures.answer
