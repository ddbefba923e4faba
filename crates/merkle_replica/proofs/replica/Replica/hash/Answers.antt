use Rattle.std.proofs.Common.{ap}
use Rattle.merkle_replica.proofs.TreeFollowsRows.{kept_hashed}
use Rattle.merkle_replica.proofs.replica.Replica.hash.Goals as goal

pub invariant_of-self : goal.invariant_of-self
invariant_of-self g c =
    kept_hashed g.K.Ord.cmp g.H.ValueHasher.value_digest c.self.inside.rows.items c.self.inside.tree c.root_hash_counted.new.self
    c.root_hash_counted.ensures.map (ap (λ tree. tree.hasher) c.root_hash_counted.ensures.tree) c.self.invariant
