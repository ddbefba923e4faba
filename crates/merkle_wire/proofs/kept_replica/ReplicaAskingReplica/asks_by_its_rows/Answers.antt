use Rattle.merkle_wire.proofs.kept_replica.ReplicaAskingReplica.asks_by_its_rows.Goals as goal

pub returns-clause-digests : goal.returns-clause-digests
returns-clause-digests g c = rw g.met.H.RowHasher.laws_are c.tree.ensures.digests
