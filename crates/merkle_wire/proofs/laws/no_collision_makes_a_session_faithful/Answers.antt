use Rattle.merkle_replica.proofs.SideLaws.{laws_of}
use Rattle.merkle_wire.proofs.WholeSessions.{faithful_nodes}
use Rattle.merkle_wire.proofs.laws.no_collision_makes_a_session_faithful.Goals as goal

pub returns : goal.returns
returns g c = rw g.met.H.RowHasher.laws_are (λ a b alike values is free none.
    let laws = laws_of g.K.Ord.cmp g.K.KeyBytes.bytes_of g.H.Hasher-1.digest_of g.V.PartialEq.eq g.V.Join.join_of g.H.Hasher-2.digest_of in
    record {
      faithful = (rw g.met.H.RowHasher.laws_are at c.no_collision_is_enough.ensures.faithful) a b alike is free;
      nodes = faithful_nodes laws g.met.K.Ord.total g.row.N a b free.small_first free.small_second none;
      values = values;
    })
