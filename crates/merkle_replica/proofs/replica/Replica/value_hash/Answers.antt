use Rattle.std.proofs.Common.{◌∙◌}
use Rattle.merkle_tree_theory.specs.State.{map_of}
use Rattle.merkle_replica.specs.Contents.{side, tree_map}
use Rattle.merkle_replica.proofs.Descents.{same_get}
use Rattle.merkle_replica.proofs.SideLaws.{laws_of}
use Rattle.merkle_replica.proofs.replica.Replica.value_hash.Goals as goal

pub returns : goal.returns
returns g c = rw g.met.H.RowHasher.laws_are (
    let laws = laws_of g.K.Ord.cmp g.K.KeyBytes.bytes_of g.H.Hasher-1.digest_of g.V.PartialEq.eq g.V.Join.join_of g.H.Hasher-2.digest_of in
    (rw c.tree.ensures.tree at c.value_hash.ensures)
    ∙ same_get g.K.Ord.cmp g.met.K.Ord.total (map_of c.args.self.now.tree) (tree_map laws (side c.args.self.now)) c.tree.ensures.digests c.args.key.now)
