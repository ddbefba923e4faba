use Rattle.merkle_replica.proofs.laws.a_replica_has_the_tree_of_its_rows.Goals as goal

pub returns : goal.returns
returns g c = rw g.met.H.RowHasher.laws_are (
    let (canonical, _) = (rw c.tree.ensures.tree at c.every_tree_is_sound.ensures.tree) in
    (canonical, c.tree.ensures.digests))
