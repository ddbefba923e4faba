use Rattle.merkle_replica.proofs.SideLaws.{laws_of}
use Rattle.merkle_wire.proofs.CatchUps.{brought_is_catch_up, brought_joins}
use Rattle.merkle_wire.proofs.Exchanges.{tells}
use Rattle.merkle_wire.proofs.WholeSessions.{session_brings}
use Rattle.merkle_wire.proofs.laws.a_session_is_a_catch_up.Goals as goal

pub returns-clause-brings : goal.returns-clause-brings
returns-clause-brings g c = rw g.met.H.RowHasher.laws_are (λ local peer up up_peer small begun last settings more rows asks_root nothing_found so_far e.
    let laws = laws_of g.K.Ord.cmp g.K.KeyBytes.bytes_of g.H.Hasher-1.digest_of g.V.PartialEq.eq g.V.Join.join_of g.H.Hasher-2.digest_of in
    let tell = tells laws g.K.Encode.encoding g.V.Encode.encoding g.K.PartialEq.eq g.met.K.Ord.matches_eq g.met.K.Decode.told g.met.V.Decode.told in
    session_brings laws g.met.K.Ord.total g.met.V.Eq.laws g.met.H.Hasher-2.respects_eq c.a_map_has_one_tree.ensures.pages g.K.Encode.encoding g.V.Encode.encoding tell
    g.row.N local peer up up_peer small begun last settings more rows asks_root nothing_found so_far e)

pub returns-clause-catch_up : goal.returns-clause-catch_up
returns-clause-catch_up g c = rw g.met.H.RowHasher.laws_are (λ local peer rows after up_peer brought joins faith.
    let laws = laws_of g.K.Ord.cmp g.K.KeyBytes.bytes_of g.H.Hasher-1.digest_of g.V.PartialEq.eq g.V.Join.join_of g.H.Hasher-2.digest_of in (
      brought_is_catch_up laws g.met.K.Ord.total g.met.V.Eq.laws g.met.V.Join.joining g.met.H.Hasher-2.respects_eq local peer up_peer rows after brought joins faith,
      brought_joins laws g.met.K.Ord.total g.met.V.Eq.laws g.met.V.Join.joining g.met.H.Hasher-2.respects_eq local peer up_peer rows after brought joins faith,
    ))
