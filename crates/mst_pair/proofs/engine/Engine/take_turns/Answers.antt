use Rattle.std.proofs.Common.{◌<◌, map, length, subst, sym}
use Rattle.std.proofs.lemmas.Result.{IfOk-weaker}
use Rattle.std.proofs.lemmas.List.{length-map}
use Rattle.merkle_replica.specs.Answers.{answer_of, StopsByTurns}
use Rattle.merkle_replica.specs.Pulls.{IsByTurns}
use Rattle.mst_pair.specs.Pages.{text_laws}
use Rattle.mst_pair.proofs.Stops.{under_defaults, on_err_from_both, stops_after}
use Rattle.mst_pair.proofs.engine.Engine.take_turns.Goals as goal

pub returns-clause-ok : goal.returns-clause-ok
returns-clause-ok c = rw (← c.self.view_is) (IfOk-weaker c.pull_by_turns.result _ _
    (λ all (met, turns, converging). (
      met,
      under_defaults (λ s t. IsByTurns text_laws (map answer_of all.items) s t c.pull_by_turns.new.a.rows c.pull_by_turns.new.b.rows met)
          c.self.inside.format c.self.inside.a c.self.inside.b c.self.invariant.0 c.self.invariant.1 turns,
    )) c.pull_by_turns.ensures.turns)

pub returns-clause-err : goal.returns-clause-err
returns-clause-err c = rw (← c.self.view_is) (on_err_from_both _ _ _ c.pull_by_turns.result
    (λ e stopped fewer. (
      map answer_of e.finished.items,
      subst (λ n. n < c.args.count) (sym (length-map e.finished.items answer_of)) (subst (λ n. length e.finished.items < n) c.from.ensures fewer),
      stops_after c.self.inside.format e.finished.items e.fault c.self.inside.a.rows c.self.inside.b.rows c.pull_by_turns.new.a.rows c.pull_by_turns.new.b.rows
          (under_defaults (λ s t. StopsByTurns text_laws e.finished.items e.fault s t c.pull_by_turns.new.a.rows c.pull_by_turns.new.b.rows)
          c.self.inside.format c.self.inside.a c.self.inside.b c.self.invariant.0 c.self.invariant.1 stopped),
    )) c.pull_by_turns.ensures.stopped c.pull_by_turns.ensures.fewer)
