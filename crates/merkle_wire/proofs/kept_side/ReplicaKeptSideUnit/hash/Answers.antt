use Rattle.std.proofs.Common.{ap}
use Rattle.merkle_wire.proofs.HashedDigests.{hashed_digests}
use Rattle.merkle_wire.proofs.kept_side.ReplicaKeptSideUnit.hash.Goals as goal

pub returns-clause-map : goal.returns-clause-map
returns-clause-map g c = λ _. ap (λ digests. digests.map) (hashed_digests g.K.KeyBytes.bytes_of c.args.self.now.tree c.hash.new.self.tree c.hash.ensures.tree)
