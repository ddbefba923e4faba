use Rattle.std.proofs.Common.{◌≡◌, rules, subst, sym, ◌∙◌}
use Rattle.std.specs.Io.KnownBytes.{Appends}
use Rattle.key_order.specs.Text.{text_order}
use Rattle.merkle_digest.specs.SipDigests.{text_digest}
use Rattle.merkle_replica.proofs.SideLaws.{same_side}
use Rattle.merkle_replica.specs.Contents.{side, tree_map}
use Rattle.merkle_tree_theory.specs.Canonical.{IsTreeOf}
use Rattle.merkle_tree_theory.specs.State.{SameSettings}
use Rattle.store_file.specs.WireRegisters.{register_encoding}
use Rattle.merkle_store.specs.Exchanges.{IsMessageAnswered, IsToldReply}
use Rattle.merkle_store.specs.Framing.{HasCome, frame_of}
use Rattle.merkle_store.specs.Sessions.{entry_laws, text_key_encoding}
use Rattle.merkle_store.proofs.Exchanged.{has_served_more}
use Rattle.merkle_store.proofs.serving.serve.Goals as goal

pub messages-preserved : goal.messages-preserved
messages-preserved g c =
    let inv = c.messages.invariant in
    let new = c.answer.ensures in
    let paused = c.pause.ensures in
    let Sound = g.S.KeptSide.is_sound c.answer.new.side in
    let local = g.S.KeptSide.contents c.args.side.now tt in
    let before = g.S.KeptSide.contents c.messages.side tt in
    let after = g.S.KeptSide.contents c.answer.new.side tt in
    let message = c.in-Some.message.items in
    let reply = c.in-Ok.reply.items in
    let rows : Sound → after.rows ≡ local.rows = λ sound. new.rows sound ∙ inv.rows (new.steady sound) in
    let settings : Sound → SameSettings local.tree after.tree = λ sound. (
      (new.settings sound).0 ∙ (inv.settings (new.steady sound)).0,
      (new.settings sound).1 ∙ (inv.settings (new.steady sound)).1,
      (new.settings sound).2 ∙ (inv.settings (new.steady sound)).2,
    ) in
    record {
      served = λ still.
          let sound = paused.steady still in
          let old = new.steady sound in
          let replies : IsToldReply entry_laws 16 text_key_encoding register_encoding local message reply = record {
            before = before;
            after = after;
            rows = (inv.rows old, rows sound);
            settings = (inv.settings old, settings sound);
            of_rows = subst (λ s. IsTreeOf text_order (text_digest s.hasher) s.base after.tree.root (tree_map entry_laws s)) (same_side local after (rows sound) (settings sound))
                c.has_its_tree.ensures;
            answer = subst (λ m. IsMessageAnswered entry_laws 16 text_key_encoding register_encoding before after m reply) c.deref.ensures.value (c.in-Ok.ensures.answered sound);
          } in
          has_served_more local c.args.most (g.W.Write.contents c.args.to.now, g.R.Read.remaining c.args.from.now) (g.W.Write.contents c.messages.to, g.R.Read.remaining c.messages.from)
          (g.W.Write.contents c.send.new.out, g.R.Read.remaining c.receive.new.from) message reply (inv.served old) replies (search rules)
          (subst (HasCome (g.R.Read.remaining c.messages.from) (g.R.Read.remaining c.receive.new.from)) c.in-Some.is c.in_ok-message.ensures.came)
          (subst (λ m. Appends (g.W.Write.contents c.messages.to) (g.W.Write.contents c.send.new.out) (frame_of m)) c.deref-in-Ok.ensures.value c.in_ok-send-in-Ok.ensures.sent);
      rows = λ still. subst (λ s. (g.S.KeptSide.contents s tt).rows ≡ local.rows) (sym (paused.same still)) (rows (paused.steady still));
      settings = λ still. subst (λ s. SameSettings local.tree (g.S.KeptSide.contents s tt).tree) (sym (paused.same still)) (settings (paused.steady still));
      steady = λ still. inv.steady (new.steady (paused.steady still));
    }
