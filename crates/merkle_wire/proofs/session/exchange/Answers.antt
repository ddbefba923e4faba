use Rattle.std.proofs.Common.{length, sym, subst, ◌∙◌}
use Rattle.merkle_digest.specs.Level.{level_of}
use Rattle.merkle_replica.specs.Contents.{side, tree_map}
use Rattle.merkle_replica.proofs.SideLaws.{laws_of, same_side}
use Rattle.merkle_tree_theory.specs.Canonical.{IsCanonicalRoot, IsTreeOf}
use Rattle.key_order.specs.Map.{IsMap}
use Rattle.merkle_wire.specs.Questions.{AsksNothing}
use Rattle.merkle_wire.specs.Replies.{AsksWithOthers}
use Rattle.merkle_wire.specs.SessionLaws.{IsPeerReply}
use Rattle.merkle_wire.proofs.WithinLimits.{stays_unlimited}
use Rattle.merkle_wire.proofs.session.exchange.Given.{Over}
use Rattle.merkle_wire.proofs.session.exchange.Goals as goal
use Rattle.merkle_wire.proofs.session.exchange.Goals.{After-take}

-- the peer's reply
of_reply : (g : Over) (c : After-take g)
    → IsPeerReply g.H.RowHasher.laws g.row.N g.K.Encode.encoding g.V.Encode.encoding (side c.args.replica.now) (side c.args.peer.now) c.args.session c.deref-2.result.now
of_reply g c = rw g.met.H.RowHasher.laws_are (
    let laws = laws_of g.K.Ord.cmp g.K.KeyBytes.bytes_of g.H.Hasher-1.digest_of g.V.PartialEq.eq g.V.Join.join_of g.H.Hasher-2.digest_of in
    let met = c.args.peer.now in
    let peer = c.answer.new.replica in
    let settings = c.answer.ensures.settings in
    let (question, read, is) = (rw g.met.H.RowHasher.laws_are at c.in-Ok.ensures.answered) in
    let canonical = subst (λ t. IsCanonicalRoot (λ k. level_of (laws.key_digest t.hasher k) t.base) t.root) c.tree.ensures.tree c.every_tree_is_sound.ensures.sound.canonical in
    subst (IsPeerReply laws g.row.N g.K.Encode.encoding g.V.Encode.encoding (side c.args.replica.now) (side met) c.args.session) (sym c.deref-2.ensures.value)
    (record {
      question = question;
      tree = peer.tree;
      reads = sym c.requires.asks ∙ sym c.deref.ensures.value ∙ read;
      settings = settings;
      of_peer = subst (λ s. IsTreeOf laws.cmp (laws.key_digest s.hasher) s.base peer.tree.root (tree_map laws s)) (same_side met peer c.answer.ensures.rows settings)
          (canonical, c.tree.ensures.digests);
      answers = is;
    }))

pub returns-in-Ok-take-clause-exchanged : goal.returns-in-Ok-take-clause-exchanged
returns-in-Ok-take-clause-exchanged g c = record {
  reply = c.deref-2.result.now;
  answer = of_reply g (goal.at.returns-in-Ok-take-clause-exchanged g c).After-take;
  takes = c.in-Ok-take.ensures.next;
}

pub returns-in-Ok-take-clause-limits : goal.returns-in-Ok-take-clause-limits
returns-in-Ok-take-clause-limits g c = stays_unlimited c.args.session (length c.deref-2.result.now) c.in-Ok-take.next c.requires.limits c.in-Ok-take.ensures.limits

pub returns-in-Err-clause-failed : goal.returns-in-Err-clause-failed
returns-in-Err-clause-failed g c =
    let message = c.deref.ensures.value ∙ c.requires.asks in (
      λ unread. subst (AsksNothing g.K.Encode.encoding g.K.Decode.is_value) message (c.in-Err.ensures.malformed unread),
      λ others. (
        c.answer.new.replica.tree,
        c.answer.ensures.settings,
        subst (AsksWithOthers g.H.RowHasher.laws g.row.N g.K.Encode.encoding c.answer.new.replica.tree) message (c.in-Err.ensures.other_settings others),
      ),
    )

pub returns-clause-failed : goal.returns-clause-failed
returns-clause-failed g c = rw g.met.H.RowHasher.laws_are (
  c.deref-2.result.now,
  c.rows.ensures.ascending,
  subst (λ rs. IsMap g.K.Ord.cmp rs) c.answer.ensures.rows c.rows-2.ensures.ascending,
  (rw g.met.H.RowHasher.laws_are at (of_reply g (goal.at.returns-clause-failed g c).After-take)),
  (rw g.met.H.RowHasher.laws_are at c.in-Err-take.ensures.ended),
)
