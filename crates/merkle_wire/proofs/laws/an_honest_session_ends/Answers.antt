use Rattle.merkle_replica.proofs.SideLaws.{laws_of}
use Rattle.merkle_wire.proofs.Exchanges.{tells}
use Rattle.merkle_wire.proofs.SteadySessions.{answers_taken, session_short}
use Rattle.merkle_wire.proofs.laws.an_honest_session_ends.Goals as goal

pub returns-clause-taken : goal.returns-clause-taken
returns-clause-taken g c = rw g.met.H.RowHasher.laws_are (λ local peer up up_peer small begun last more begins exchanges told reply error answer stopped.
    let laws = laws_of g.K.Ord.cmp g.K.KeyBytes.bytes_of g.H.Hasher-1.digest_of g.V.PartialEq.eq g.V.Join.join_of g.H.Hasher-2.digest_of in
    let tell = tells laws g.K.Encode.encoding g.V.Encode.encoding g.K.PartialEq.eq g.met.K.Ord.matches_eq g.met.K.Decode.told g.met.V.Decode.told in
    answers_taken laws g.met.K.Ord.total g.met.V.Eq.laws g.met.H.Hasher-2.respects_eq c.a_map_has_one_tree.ensures.pages g.K.Encode.encoding g.V.Encode.encoding tell
    g.row.N local peer up up_peer small
    g.K.Decode.is_value g.V.Decode.is_value told begun last more begins exchanges reply error answer stopped)

pub returns-clause-ends : goal.returns-clause-ends
returns-clause-ends g c = rw g.met.H.RowHasher.laws_are (λ local peer up up_peer small begun last more begins exchanges.
    let laws = laws_of g.K.Ord.cmp g.K.KeyBytes.bytes_of g.H.Hasher-1.digest_of g.V.PartialEq.eq g.V.Join.join_of g.H.Hasher-2.digest_of in
    let tell = tells laws g.K.Encode.encoding g.V.Encode.encoding g.K.PartialEq.eq g.met.K.Ord.matches_eq g.met.K.Decode.told g.met.V.Decode.told in
    session_short laws g.met.K.Ord.total g.met.V.Eq.laws g.met.H.Hasher-2.respects_eq c.a_map_has_one_tree.ensures.pages g.K.Encode.encoding g.V.Encode.encoding tell
    g.row.N local peer up up_peer small begun last more begins exchanges)
