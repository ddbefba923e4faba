use Rattle.merkle_search_tree.specs.Loading.{digests}
use Rattle.merkle_tree_theory.specs.State.{map_of}
use Rattle.merkle_replica.proofs.Small.{small_same}
use Rattle.merkle_replica.proofs.laws.a_replica_in_memory_is_small.Goals as goal

pub returns : goal.returns
returns g c = rw g.met.H.RowHasher.laws_are (
    let r = c.args.replica.now in
    small_same g.K.Ord.cmp g.met.K.Ord.total g.K.KeyBytes.bytes_of c.equal_keys_have_equal_bytes.ensures g.row.N
    (g.H.Hasher-1.digest_of r.tree.hasher) r.tree.base (map_of r.tree) (digests (g.H.Hasher-2.digest_of r.tree.hasher) r.rows) c.tree.ensures.digests
    (rw c.tree.ensures.tree at c.a_tree_in_memory_is_small.ensures))
