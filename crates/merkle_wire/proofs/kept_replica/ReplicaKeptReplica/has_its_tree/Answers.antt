use Rattle.std.proofs.Common.{subst}
use Rattle.merkle_digest.specs.Level.{level_of}
use Rattle.merkle_tree_theory.specs.Canonical.{IsCanonicalRoot}
use Rattle.merkle_wire.proofs.kept_replica.ReplicaKeptReplica.has_its_tree.Goals as goal

pub returns : goal.returns
returns g c = rw g.met.H.RowHasher.laws_are (
  subst (λ t. IsCanonicalRoot (λ k. level_of (g.H.Hasher-1.digest_of t.hasher k) t.base) t.root) c.tree.ensures.tree c.every_tree_is_sound.ensures.sound.canonical,
  c.tree.ensures.digests,
)
