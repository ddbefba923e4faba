use Rattle.std.proofs.lemmas.Result.{IfOk-weaker}
use Rattle.merkle_replica.specs.Answers.{answer_of, IsRefused}
use Rattle.merkle_replica.specs.Pulls.{IsPull}
use Rattle.mst_pair.specs.Pages.{text_laws}
use Rattle.mst_pair.proofs.Stops.{under_defaults, on_err_from, stops_pulling}
use Rattle.mst_pair.proofs.engine.Engine.pull.Goals as goal

pub returns-in-A-clause-ok : goal.returns-in-A-clause-ok
returns-in-A-clause-ok c = rw (c.in-A.is, ← c.self.view_is) (IfOk-weaker c.pull.result _ _
    (λ pulled done. under_defaults
    (λ s t. IsPull text_laws s t
    (answer_of pulled) c.pull.new.self.rows) c.self.inside.format c.self.inside.a c.self.inside.b c.self.invariant.0 c.self.invariant.1 done) c.pull.ensures.done)

pub returns-in-A-clause-err : goal.returns-in-A-clause-err
returns-in-A-clause-err c = rw (c.in-A.is, ← c.self.view_is) (on_err_from _ _ c.pull.result
    (λ fault refused. stops_pulling c.self.inside.format c.self.inside.a.rows c.self.inside.b.rows fault c.pull.new.self.rows
    (under_defaults (λ s t. IsRefused text_laws s t fault c.pull.new.self.rows) c.self.inside.format c.self.inside.a c.self.inside.b c.self.invariant.0
    c.self.invariant.1 refused)) c.pull.ensures.refused)

pub returns-in-B-clause-ok : goal.returns-in-B-clause-ok
returns-in-B-clause-ok c = rw (c.in-B.is, ← c.self.view_is) (IfOk-weaker c.pull-in-B.result _ _
    (λ pulled done. under_defaults
    (λ s t. IsPull text_laws s t
    (answer_of pulled) c.pull-in-B.new.self.rows) c.self.inside.format c.self.inside.b c.self.inside.a c.self.invariant.1 c.self.invariant.0 done) c.pull-in-B.ensures.done)

pub returns-in-B-clause-err : goal.returns-in-B-clause-err
returns-in-B-clause-err c = rw (c.in-B.is, ← c.self.view_is) (on_err_from _ _ c.pull-in-B.result
    (λ fault refused. stops_pulling c.self.inside.format c.self.inside.b.rows c.self.inside.a.rows fault c.pull-in-B.new.self.rows
    (under_defaults (λ s t. IsRefused text_laws s t fault c.pull-in-B.new.self.rows) c.self.inside.format c.self.inside.b c.self.inside.a c.self.invariant.1
    c.self.invariant.0 refused)) c.pull-in-B.ensures.refused)
