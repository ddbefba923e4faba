use Rattle.std.proofs.lemmas.Result.{on_ok_weaker}
use Rattle.mst_pair.proofs.engine.Engine.join_row.Goals as goal

pub returns-in-A-clause-ok : goal.returns-in-A-clause-ok
returns-in-A-clause-ok c = rw (c.in-A.is, ← c.self.view_is) (on_ok_weaker c.put.result (λ joins. (c.in_ok-key.key, c.in_ok-key.ensures.ok, joins)) c.put.ensures.joined)

pub returns-in-B-clause-ok : goal.returns-in-B-clause-ok
returns-in-B-clause-ok c = rw (c.in-B.is, ← c.self.view_is) (on_ok_weaker c.put-in-B.result (λ joins. (c.in_ok-key.key, c.in_ok-key.ensures.ok, joins)) c.put-in-B.ensures.joined)
