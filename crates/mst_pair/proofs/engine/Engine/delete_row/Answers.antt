use Rattle.mst_pair.proofs.Deleted.{deleted}
use Rattle.mst_pair.proofs.engine.Engine.delete_row.Goals as goal

pub returns-in-A-clause-ok : goal.returns-in-A-clause-ok
returns-in-A-clause-ok c = rw (c.in-A.is, ← c.self.view_is) (deleted c.del.result _ _ c.in_ok-text.text _ c.in_ok-text.ensures.ok c.del.ensures.rows c.del.ensures.found)

pub returns-clause-ok : goal.returns-clause-ok
returns-clause-ok c = rw (c.in-B.is, ← c.self.view_is) (deleted c.del-in-B.result _ _ c.in_ok-text.text _ c.in_ok-text.ensures.ok c.del-in-B.ensures.rows c.del-in-B.ensures.found)
