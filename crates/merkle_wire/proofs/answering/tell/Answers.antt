use Rattle.merkle_wire.proofs.answering.tell.Goals as goal

pub returns-in-Outlines-clause-reply : goal.returns-in-Outlines-clause-reply
returns-in-Outlines-clause-reply g c = rw g.met.H.RowHasher.laws_are (rw c.in-Outlines.is (rw c.deref.ensures.value at c.tell_pages.ensures.told))

pub returns-in-Nodes-clause-reply : goal.returns-in-Nodes-clause-reply
returns-in-Nodes-clause-reply g c = rw g.met.H.RowHasher.laws_are (rw c.in-Nodes.is (rw c.deref-in-Nodes.ensures.value at c.tell_pages-in-Nodes.ensures.told))
