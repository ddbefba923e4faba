use Rattle.merkle_wire.proofs.HashedDigests.{hashed_digests}
use Rattle.merkle_wire.proofs.kept_tree.hash_tree.Goals as goal

pub returns-clause-kept : goal.returns-clause-kept
returns-clause-kept g c = hashed_digests g.K.KeyBytes.bytes_of c.args.tree.now c.root_hash_counted.new.self c.root_hash_counted.ensures.tree
