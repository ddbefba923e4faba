use Rattle.std.proofs.lemmas.Result.{IfOk-weaker, on_err_weaker}
use Rattle.merkle_diff.specs.DiffRange.{spans}
use Rattle.merkle_diff.specs.PageRange.{entries}
use Rattle.merkle_diff.proofs.FromWalk.{entries-ordered}
use Rattle.merkle_diff.proofs.IntervalLaws.{difference}
use Rattle.merkle_diff.proofs.NoAnswer.{cause}
use Rattle.merkle_diff.proofs.Queues.{Drains-from}
use Rattle.merkle_diff.proofs.TreeLaws.{spares}
use Rattle.merkle_diff.proofs.difference.diff.Goals as goal

pub returns-clause-answer : goal.returns-clause-answer
returns-clause-answer g c =
    IfOk-weaker c.differences.result _ _
    (λ found h. (
      h.0,
      h.1,
      (c.into_iter.result, c.into_iter.ensures.into_iter_gives, Drains-from g.T.IntoIter.Iterator.next_gives h.0 c.into_iter.result c.look_ahead.result c.look_ahead.ensures.steps h.2),
      (c.into_iter-2.result, c.into_iter-2.ensures.into_iter_gives, Drains-from g.U.IntoIter.Iterator.next_gives h.1 c.into_iter-2.result c.look_ahead-2.result c.look_ahead-2.ensures.steps h.3),
      record {
        interval_laws = difference g.K.Ord.cmp g.met.K.Ord.total (entries h.0) (entries h.1) (spans found.items) (entries-ordered h.1) h.4;
        laws_on_trees = λ local_tree peer_tree. spares g.K.Ord.cmp g.met.K.Ord.total (entries h.0) (entries h.1) (spans found.items) (entries-ordered h.1) local_tree peer_tree h.4;
        exact_walk = h.4;
      },
    ))
    c.differences.ensures.ok

pub returns-clause-memory : goal.returns-clause-memory
returns-clause-memory g c =
    on_err_weaker c.differences.result
    (cause g.K.Ord.cmp g.U.IntoIterator.into_iter_gives g.U.IntoIter.Iterator.next_gives c.args.peer c.into_iter-2.result c.look_ahead-2.result
    g.T.IntoIterator.into_iter_gives g.T.IntoIter.Iterator.next_gives c.args.local c.into_iter.result c.look_ahead.result
    c.into_iter-2.ensures.into_iter_gives c.look_ahead-2.ensures.steps c.into_iter.ensures.into_iter_gives c.look_ahead.ensures.steps)
    c.differences.ensures.err
