use Rattle.std.proofs.Common.{subst, arith}
use Rattle.key_order.specs.Join.{IsJoin}
use Rattle.merkle_replica.specs.Contents.{side}
use Rattle.merkle_replica.proofs.SideLaws.{laws_of}
use Rattle.merkle_wire.proofs.CatchUps.{joined_is_catch_up, joined_joins}
use Rattle.merkle_wire.proofs.session.catch_up_by_messages.Goals as goal

pub returns-clause-joined : goal.returns-clause-joined
returns-clause-joined g c = rw g.met.H.RowHasher.laws_are ((
  c.in-Ok.rows.items,
  omega (arith, c.in-Ok.rows.ok, c.len-count.ensures),
  (rw g.met.H.RowHasher.laws_are at c.in-Ok.ensures.brought),
  subst (λ rows. IsJoin g.K.Ord.cmp g.V.PartialEq.eq g.V.Join.join_of rows c.in-Ok.rows.items c.join_rows.new.self.rows) c.rows_by_messages.ensures.rows c.in-Ok-join_rows.ensures.joined,
))

pub returns-clause-catch_up : goal.returns-clause-catch_up
returns-clause-catch_up g c = rw g.met.H.RowHasher.laws_are (
    let laws = laws_of g.K.Ord.cmp g.K.KeyBytes.bytes_of g.H.Hasher-1.digest_of g.V.PartialEq.eq g.V.Join.join_of g.H.Hasher-2.digest_of in
    joined_is_catch_up laws g.met.K.Ord.total g.met.V.Eq.laws g.met.V.Join.joining g.met.H.Hasher-2.respects_eq (side c.args.replica.now)
    (side c.args.peer.now) c.rows.ensures.ascending c.len-count.result c.join_rows.new.self.rows (rw g.met.H.RowHasher.laws_are at (returns-clause-joined g c)))

pub returns-clause-join : goal.returns-clause-join
returns-clause-join g c = rw g.met.H.RowHasher.laws_are (
    let laws = laws_of g.K.Ord.cmp g.K.KeyBytes.bytes_of g.H.Hasher-1.digest_of g.V.PartialEq.eq g.V.Join.join_of g.H.Hasher-2.digest_of in
    joined_joins laws g.met.K.Ord.total g.met.V.Eq.laws g.met.V.Join.joining g.met.H.Hasher-2.respects_eq (side c.args.replica.now)
    (side c.args.peer.now) c.rows.ensures.ascending c.len-count.result c.join_rows.new.self.rows (rw g.met.H.RowHasher.laws_are at (returns-clause-joined g c)))
