use Rattle.merkle_diff.proofs.OneAnswer.{one_answer}
use Rattle.merkle_diff.proofs.laws.the_exact_walk_has_one_answer.Goals as goal

pub returns : goal.returns
returns g c ls ps xs ys by_walk too = one_answer g.K.Ord.cmp g.met.K.Ord.total ls ps xs ys by_walk too
