use Rattle.std.proofs.lemmas.Result.{IfOk-weaker}
use Rattle.merkle_replica.specs.Answers.{spans_of}
use Rattle.mst_pair.proofs.Stops.{to_ask}
use Rattle.mst_pair.proofs.engine.Engine.ranges_to_ask.Goals as goal

pub returns-in-A-clause-ranges : goal.returns-in-A-clause-ranges
returns-in-A-clause-ranges c =
    rw (c.in-A.is, ← c.self.view_is)
    (IfOk-weaker c.ranges_to_ask.result _ _
    (λ found. to_ask c.self.inside.format c.self.inside.a c.self.inside.b (spans_of found.items) c.self.invariant.0 c.self.invariant.1) c.ranges_to_ask.ensures.answer)

pub returns-in-B-clause-ranges : goal.returns-in-B-clause-ranges
returns-in-B-clause-ranges c =
    rw (c.in-B.is, ← c.self.view_is)
    (IfOk-weaker c.ranges_to_ask-in-B.result _ _
    (λ found. to_ask c.self.inside.format c.self.inside.b c.self.inside.a (spans_of found.items) c.self.invariant.1 c.self.invariant.0) c.ranges_to_ask-in-B.ensures.answer)
