use Rattle.merkle_wire.proofs.catching_up.CatchingUp.take.Goals as goal

-- what holds for the rows of which the tree has the digests holds for those of the replica
pub returns-in-Ok-clause-next : goal.returns-in-Ok-clause-next
returns-in-Ok-clause-next g c = rw g.met.H.RowHasher.laws_are ((rw g.met.H.RowHasher.laws_are at c.in-Ok.ensures.next) tt c.args.replica.now.rows c.tree.ensures.digests)

pub returns-in-Ok-clause-asked_for : goal.returns-in-Ok-clause-asked_for
returns-in-Ok-clause-asked_for g c = (rw g.met.H.RowHasher.laws_are at c.in-Ok.ensures.asked_for) tt c.args.replica.now.rows c.tree.ensures.digests

pub returns-in-Err-Session-clause-ended : goal.returns-in-Err-Session-clause-ended
returns-in-Err-Session-clause-ended g c = rw g.met.H.RowHasher.laws_are (
    (rw g.met.H.RowHasher.laws_are at (rw c.in-Err-Session.field-0-is at c.in-Err-Session.ensures.ended)) tt c.args.replica.now.rows c.tree.ensures.digests)
