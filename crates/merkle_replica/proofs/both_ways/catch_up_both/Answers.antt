use Rattle.std.proofs.Common.{sym, subst}
use Rattle.key_order.specs.Join.{IsJoin}
use Rattle.merkle_replica.specs.Contents.{side, with_rows}
use Rattle.merkle_replica.specs.Faithful.{IsFaithful}
use Rattle.merkle_replica.proofs.CatchUpJoins.{join_back}
use Rattle.merkle_replica.proofs.SideLaws.{laws_of, same_side, rows_alone}
use Rattle.merkle_replica.proofs.both_ways.catch_up_both.Goals as goal

pub returns-in-Ok-catch_up-clause-join : goal.returns-in-Ok-catch_up-clause-join
returns-in-Ok-catch_up-clause-join g c = rw g.met.H.RowHasher.laws_are (λ first second.
    let laws = laws_of g.K.Ord.cmp g.K.KeyBytes.bytes_of g.H.Hasher-1.digest_of g.V.PartialEq.eq g.V.Join.join_of g.H.Hasher-2.digest_of in
    let a = c.args.a.now in
    let b = c.args.b.now in
    let mid = c.catch_up.new.self in
    let met = c.catch_up.new.peer in
    let stays = c.catch_up-2.ensures.peer_rows in
    let one = (rw g.met.H.RowHasher.laws_are at c.in-Ok.ensures.join) first in
    let faith = subst (λ s. IsFaithful laws s (side mid)) (sym (same_side b met c.catch_up.ensures.peer_rows c.catch_up.ensures.peer_settings))
    (subst (IsFaithful laws (side b)) (sym (rows_alone a mid c.catch_up.ensures.settings)) (subst (λ rows. IsFaithful laws (side b) (with_rows (side a) rows)) stays second)) in
    let two = subst (λ rows. IsJoin laws.cmp laws.eq laws.join rows mid.rows c.catch_up-2.new.self.rows) c.catch_up.ensures.peer_rows
    ((rw g.met.H.RowHasher.laws_are at c.in-Ok-catch_up.ensures.join) faith) in (
      subst (IsJoin laws.cmp laws.eq laws.join a.rows b.rows) (sym stays) one,
      join_back laws.cmp laws.eq g.met.V.Eq.laws laws.join g.met.V.Join.joining a.rows b.rows mid.rows c.catch_up-2.new.self.rows one two,
    ))
