use Rattle.std.proofs.Common.{sym, subst}
use Rattle.key_order.specs.Join.{IsJoin}
use Rattle.merkle_replica.specs.Contents.{side}
use Rattle.merkle_replica.proofs.CatchUpJoins.{join_back}
use Rattle.merkle_replica.proofs.SideLaws.{laws_of}
use Rattle.merkle_wire.specs.Sessions.{HasJoined, IsFaithfulSession, IsMessagesRefused}
use Rattle.merkle_wire.proofs.CatchUps.{second_sides}
use Rattle.merkle_wire.proofs.session.catch_up_both_by_messages.Goals as goal

pub returns-in-Ok-catch_up_by_messages-clause-joined : goal.returns-in-Ok-catch_up_by_messages-clause-joined
returns-in-Ok-catch_up_by_messages-clause-joined g c = rw g.met.H.RowHasher.laws_are (
    let laws = laws_of g.K.Ord.cmp g.K.KeyBytes.bytes_of g.H.Hasher-1.digest_of g.V.PartialEq.eq g.V.Join.join_of g.H.Hasher-2.digest_of in
    subst (HasJoined laws (side c.args.a.now) (side c.args.b.now) c.in-Ok.first) (sym c.catch_up_by_messages-2.ensures.peer_rows) (rw g.met.H.RowHasher.laws_are at c.in-Ok.ensures.joined))

pub returns-in-Ok-catch_up_by_messages-clause-joined_back : goal.returns-in-Ok-catch_up_by_messages-clause-joined_back
returns-in-Ok-catch_up_by_messages-clause-joined_back g c = rw g.met.H.RowHasher.laws_are (
    let laws = laws_of g.K.Ord.cmp g.K.KeyBytes.bytes_of g.H.Hasher-1.digest_of g.V.PartialEq.eq g.V.Join.join_of g.H.Hasher-2.digest_of in
    let first = c.catch_up_by_messages in
    let second = c.catch_up_by_messages-2 in
    second_sides c.args.a.now first.new.replica second.new.peer c.args.b.now first.new.peer first.ensures.peer_rows first.ensures.peer_settings first.ensures.settings second.ensures.peer_rows
    (λ s t. HasJoined laws s t c.in-Ok-catch_up_by_messages.second second.new.replica.rows) (rw g.met.H.RowHasher.laws_are at c.in-Ok-catch_up_by_messages.ensures.joined))

pub returns-in-Ok-catch_up_by_messages-clause-join : goal.returns-in-Ok-catch_up_by_messages-clause-join
returns-in-Ok-catch_up_by_messages-clause-join g c = rw g.met.H.RowHasher.laws_are (λ faith then.
    let laws = laws_of g.K.Ord.cmp g.K.KeyBytes.bytes_of g.H.Hasher-1.digest_of g.V.PartialEq.eq g.V.Join.join_of g.H.Hasher-2.digest_of in
    let a = c.args.a.now in
    let b = c.args.b.now in
    let first = c.catch_up_by_messages in
    let second = c.catch_up_by_messages-2 in
    let stays = second.ensures.peer_rows in
    let one = subst (IsJoin laws.cmp laws.eq laws.join a.rows b.rows) (sym stays) ((rw g.met.H.RowHasher.laws_are at c.in-Ok.ensures.join) faith) in
    let two = second_sides a first.new.replica second.new.peer b first.new.peer first.ensures.peer_rows first.ensures.peer_settings first.ensures.settings stays
    (λ s t. IsFaithfulSession laws s t → IsJoin laws.cmp laws.eq laws.join s.rows t.rows second.new.replica.rows) (rw g.met.H.RowHasher.laws_are at c.in-Ok-catch_up_by_messages.ensures.join) then in
    (one, join_back laws.cmp laws.eq g.met.V.Eq.laws laws.join g.met.V.Join.joining a.rows b.rows second.new.peer.rows second.new.replica.rows one two))

pub returns-in-Err-catch_up_by_messages-clause-refused : goal.returns-in-Err-catch_up_by_messages-clause-refused
returns-in-Err-catch_up_by_messages-clause-refused g c = rw g.met.H.RowHasher.laws_are (
    let laws = laws_of g.K.Ord.cmp g.K.KeyBytes.bytes_of g.H.Hasher-1.digest_of g.V.PartialEq.eq g.V.Join.join_of g.H.Hasher-2.digest_of in
    let first = c.catch_up_by_messages in
    let second = c.catch_up_by_messages-2 in
    let stays = second.ensures.peer_rows in (
      subst (HasJoined laws (side c.args.a.now) (side c.args.b.now) c.in-Ok.first) (sym stays) (rw g.met.H.RowHasher.laws_are at c.in-Ok.ensures.joined),
      second_sides c.args.a.now first.new.replica second.new.peer c.args.b.now first.new.peer first.ensures.peer_rows first.ensures.peer_settings first.ensures.settings stays
          (λ s t. IsMessagesRefused laws s t c.in-Err-catch_up_by_messages.error second.new.replica.rows) (rw g.met.H.RowHasher.laws_are at c.in-Err-catch_up_by_messages.ensures.refused),
    ))
