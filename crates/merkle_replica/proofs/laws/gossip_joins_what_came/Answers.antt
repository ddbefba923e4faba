use Rattle.std.proofs.Common.{[], ◌∷◌}
use Rattle.merkle_replica.proofs.Gossips.{alone, comes_to, same_join}
use Rattle.merkle_replica.proofs.SideLaws.{laws_of}
use Rattle.merkle_replica.proofs.laws.gossip_joins_what_came.Goals as goal

pub returns-clause-joins : goal.returns-clause-joins
returns-clause-joins g c = rw g.met.H.RowHasher.laws_are (λ steps before after met up gossip faith.
    let laws = laws_of g.K.Ord.cmp g.K.KeyBytes.bytes_of g.H.Hasher-1.digest_of g.V.PartialEq.eq g.V.Join.join_of g.H.Hasher-2.digest_of in
    comes_to laws g.met.K.Ord.total g.met.V.Eq.laws g.met.V.Join.joining (λ m. (before m).rows) steps (λ n. n ∷ []) before after met gossip faith
    (λ n. alone laws.cmp laws.eq g.met.V.Eq.laws laws.join g.met.V.Join.joining (before n).rows (up n)))

pub returns-clause-same : goal.returns-clause-same
returns-clause-same g c = same_join g.K.Ord.cmp g.V.PartialEq.eq g.met.V.Eq.laws g.V.Join.join_of g.met.V.Join.joining
