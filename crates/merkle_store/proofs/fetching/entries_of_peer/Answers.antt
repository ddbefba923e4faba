use Rattle.std.proofs.Common.{◌≡◌, subst, sym, ap, ◌∙◌}
use Rattle.std.specs.Io.KnownBytes.{Appends}
use Rattle.merkle_replica.specs.Contents.{side}
use Rattle.merkle_wire.specs.Next.{IsNext}
use Rattle.merkle_wire.specs.declared.catching_up.Next.TheVariants.{Ask, Came}
use Rattle.merkle_delta.specs.Hearing.{IsHeard}
use Rattle.store_file.specs.WireRegisters.{register_encoding}
use Rattle.merkle_store.specs.Exchanges.{BeginsCatchUp}
use Rattle.merkle_store.specs.Framing.{Streams, frame_of}
use Rattle.merkle_store.specs.Sessions.{AsksByRows, entry_laws, text_key_encoding}
use Rattle.merkle_store.proofs.Asked.{of_side}
use Rattle.merkle_store.proofs.Exchanged.{HasComeTo, asks_alone, comes_to, goes_on, has_begun}
use Rattle.merkle_store.proofs.fetching.entries_of_peer.Goals as goal
use Rattle.merkle_store.proofs.fetching.entries_of_peer.Goals.{in-Again, in-Reply+in_ok-next-in-Reply+in-Ask+in_ok-message-in-Ask}

pub messages-init : goal.messages-init
messages-init g c =
    let local = g.S.AskingReplica.whole c.args.side.now in
    let message = c.in_ok-session.message in
    let most = c.args.most in
    let session = c.within-session.result in
    let streams : Streams = (g.W.Write.contents c.args.to.now, g.R.Read.remaining c.args.from.now) in
    record {
      come = λ sound.
          let begun = c.in_ok-session.ensures.begins sound in
          let begins = subst (λ s. BeginsCatchUp entry_laws 16 text_key_encoding local s message.items) (sym c.within-session.ensures)
          (record { settings = begun.settings; asks = begun.asks; nothing_found = begun.nothing_found }) in
          subst (λ told. HasComeTo local most streams streams session told message) (sym c.new-deltas.ensures) (has_begun local most streams session message begins);
      rows = c.in_ok-session.ensures.rows;
      kept = c.in_ok-session.ensures.kept;
      steady = c.in_ok-session.ensures.steady;
    }

pub returns-in-Came-clause-came : goal.returns-in-Came-clause-came
returns-in-Came-clause-came g c = λ sound.
    let inv = c.messages.invariant in
    let local = g.S.AskingReplica.whole c.args.side.now in
    let still = c.take.ensures.steady sound in
    let old = c.ask.ensures.steady still in
    let same = ap g.S.KeptTree.kept (c.ask.ensures.same still) in
    let session = c.messages.session in
    let is_next = IsNext entry_laws 16 text_key_encoding register_encoding in
    let taken = subst (λ n. is_next (side local) session c.deref-in-Reply.result.now n) c.in-Came.is
    (of_side (g.S.KeptTree.kept c.ask.new.side).digests local (subst (λ k. AsksByRows k.digests local) (sym same) (inv.rows old))
    (λ own. is_next own session c.deref-in-Reply.result.now c.in_ok-next-in-Reply.field-0) (c.in_ok-next-in-Reply.ensures.next sound)) in
    comes_to local c.args.most (g.W.Write.contents c.args.to.now, g.R.Read.remaining c.args.from.now) (g.W.Write.contents c.messages.to, g.R.Read.remaining c.messages.from)
    (g.W.Write.contents c.ask.new.to, g.R.Read.remaining c.ask.new.from) session c.messages.deltas c.messages.message c.in_ok-reply.reply.items (inv.come old)
    (subst (λ m. Appends (g.W.Write.contents c.messages.to) (g.W.Write.contents c.ask.new.to) (frame_of m)) c.deref.ensures.value c.in_ok-reply.ensures.sent)
    c.in_ok-reply.ensures.came c.in_ok-reply.ensures.fits
    c.in-Reply.plain c.in-Came.entries (subst (IsHeard c.messages.deltas c.in_ok-reply.reply.items) c.in-Reply.is c.in_ok-question.ensures.heard)
    (subst (λ r. is_next (side local) session r (Came c.in-Came.entries)) c.deref-in-Reply.ensures.value taken)

pub messages-preserved : goal.messages-preserved
messages-preserved g c =
    let inv = c.messages.invariant in
    let local = g.S.AskingReplica.whole c.args.side.now in
    let most = c.args.most in
    let session = c.messages.session in
    let before : Streams = (g.W.Write.contents c.args.to.now, g.R.Read.remaining c.args.from.now) in
    let mid : Streams = (g.W.Write.contents c.messages.to, g.R.Read.remaining c.messages.from) in
    let after : Streams = (g.W.Write.contents c.ask.new.to, g.R.Read.remaining c.ask.new.from) in
    let reply = c.in_ok-reply.reply.items in
    let is_next = IsNext entry_laws 16 text_key_encoding register_encoding in
    let was = c.ask.ensures.steady in
    let as_before : (still : g.S.KeptTree.is_sound c.ask.new.side) → g.S.KeptTree.kept c.ask.new.side ≡ g.S.KeptTree.kept c.messages.side =
    λ still. ap g.S.KeptTree.kept (c.ask.ensures.same still) in
    let rows : g.S.KeptTree.is_sound c.ask.new.side → AsksByRows (g.S.KeptTree.kept c.ask.new.side).digests local =
    λ still. subst (λ k. AsksByRows k.digests local) (sym (as_before still)) (inv.rows (was still)) in
    let sent = subst (λ m. Appends (g.W.Write.contents c.messages.to) (g.W.Write.contents c.ask.new.to) (frame_of m)) c.deref.ensures.value c.in_ok-reply.ensures.sent in
    elim c.match-branch-5.branch [
      | in-Again w ↦ rw (w.side-is, w.session-is, w.message-is, w.deltas-is) (record {
        come = λ sound. asks_alone local most before mid after session c.messages.deltas c.messages.message reply (inv.come (was sound)) sent c.in_ok-reply.ensures.came c.in_ok-reply.ensures.fits
            w.in-Again.question _ (subst (IsHeard c.messages.deltas reply) w.in-Again.is c.in_ok-question.ensures.heard) c.in_ok-question.ensures.none_told;
        rows = rows;
        kept = λ still. as_before still ∙ inv.kept (was still);
        steady = λ still. inv.steady (was still);
      })
      | in-Reply+in_ok-next-in-Reply+in-Ask+in_ok-message-in-Ask w ↦
          let next = Ask w.in-Ask.next w.in-Ask.question in
          let taken = w.message_for.ensures.steady in
          let still : g.S.KeptTree.is_sound w.message_for.new.side → g.S.KeptTree.is_sound c.ask.new.side = λ sound. w.take.ensures.steady (taken sound) in
          let old : g.S.KeptTree.is_sound w.message_for.new.side → g.S.KeptTree.is_sound c.messages.side = λ sound. was (still sound) in
          let same : (sound : g.S.KeptTree.is_sound w.message_for.new.side) → g.S.KeptTree.kept w.message_for.new.side ≡ g.S.KeptTree.kept c.messages.side =
          λ sound. w.message_for.ensures.kept sound ∙ w.take.ensures.kept (taken sound) ∙ as_before (still sound) in
          let is : g.S.KeptTree.is_sound w.message_for.new.side → is_next (side local) session w.in-Reply.plain.items next = λ sound.
          subst (λ r. is_next (side local) session r next) w.deref-in-Reply.ensures.value
          (subst (λ n. is_next (side local) session w.deref-in-Reply.result.now n) w.in-Ask.is
          (of_side (g.S.KeptTree.kept c.ask.new.side).digests local (rows (still sound)) (λ own. is_next own session w.deref-in-Reply.result.now w.in_ok-next-in-Reply.field-0)
          (w.in_ok-next-in-Reply.ensures.next (taken sound)))) in
          rw (w.side-is, w.session-is, w.message-is, w.deltas-is) (record {
            come = λ sound. goes_on local most before mid after session c.messages.deltas c.messages.message reply (inv.come (old sound)) sent c.in_ok-reply.ensures.came
                c.in_ok-reply.ensures.fits w.in-Reply.plain w.in-Ask.next w.in-Ask.question _ w.in_ok-message-in-Ask.message
                (subst (IsHeard c.messages.deltas reply) w.in-Reply.is c.in_ok-question.ensures.heard) (is sound) w.in_ok-message-in-Ask.ensures.sent;
            rows = λ sound. subst (λ k. AsksByRows k.digests local) (sym (same sound)) (inv.rows (old sound));
            kept = λ sound. same sound ∙ inv.kept (old sound);
            steady = λ sound. inv.steady (old sound);
          })
    ]
