use Rattle.merkle_wire.proofs.HashedDigests.{hashed_digests}
use Rattle.merkle_wire.proofs.kept_tree.hash_replica.Goals as goal

pub returns-clause-kept : goal.returns-clause-kept
returns-clause-kept g c = hashed_digests g.K.KeyBytes.bytes_of c.args.replica.now.tree c.hash.new.self.tree c.hash.ensures.tree
