use Rattle.std.proofs.Common.{subst, sym}
use Rattle.std.proofs.lemmas.Result.{IfErr-weaker, IfOk-weaker}
use Rattle.merkle_wire.specs.Faults.{IsUnread, OfMessage}
use Rattle.merkle_wire.specs.Questions.{AsksNothing}
use Rattle.merkle_wire.specs.Replies.{EndsWithin, IsAnsweredBy, IsAnsweredWithin, IsReply}
use Rattle.merkle_wire.proofs.OfMessages.{RefusesMessage, RefusesQuestion, of_message_weaker}
use Rattle.merkle_wire.proofs.answering.answer_by.Goals as goal

pub returns-in-Ok-clause-answered : goal.returns-in-Ok-clause-answered
returns-in-Ok-clause-answered g c = λ sound.
    let by = IsReply g.H.RowHasher.laws g.row.N g.K.Encode.encoding g.V.Encode.encoding in
    let question = c.in-Ok.question in
    let before = g.S.KeptSide.contents c.args.side.now c.args.beside.now in
    let hashed = g.S.KeptSide.contents c.hash.new.self c.args.beside.now in
    let after = g.S.KeptSide.contents c.reply_to.new.side c.args.beside.now in
    IfOk-weaker c.reply_to.result (λ reply. by hashed.rows hashed.tree question reply.items)
    (IsAnsweredBy g.H.RowHasher.laws g.row.N g.K.Encode.encoding g.V.Encode.encoding before.rows after.tree c.args.message.now)
    (λ reply is. (
      question,
      c.in-Ok.ensures.asks,
      subst (λ rows. by rows after.tree question reply.items) (c.hash.ensures.rows (c.reply_to.ensures.steady sound))
          (subst (λ side. by hashed.rows side.tree question reply.items) (sym (c.reply_to.ensures.kept sound)) is),
    )) (c.reply_to.ensures.reply sound)

pub returns-in-Ok-clause-within : goal.returns-in-Ok-clause-within
returns-in-Ok-clause-within g c = λ sound.
    IfOk-weaker c.reply_to.result (λ reply. EndsWithin g.K.Encode.encoding g.V.Encode.encoding c.args.most_bytes c.in-Ok.question reply.items)
    (IsAnsweredWithin g.K.Encode.encoding g.V.Encode.encoding c.args.most_bytes c.args.message.now)
    (λ reply fits. (c.in-Ok.question, c.in-Ok.ensures.asks, fits)) (c.reply_to.ensures.within sound)

pub returns-in-Ok-clause-malformed : goal.returns-in-Ok-clause-malformed
returns-in-Ok-clause-malformed g c =
    IfErr-weaker c.reply_to.result (OfMessage (λ error. ¬ IsUnread error)) (OfMessage (λ error. IsUnread error → AsksNothing g.K.Encode.encoding g.K.Decode.is_value c.args.message.now))
    (λ fault. of_message_weaker (λ error. ¬ IsUnread error) (λ error. IsUnread error → AsksNothing g.K.Encode.encoding g.K.Decode.is_value c.args.message.now)
    (λ error none unread. absurd (none unread)) fault) c.reply_to.ensures.read

pub returns-in-Ok-clause-other_settings : goal.returns-in-Ok-clause-other_settings
returns-in-Ok-clause-other_settings g c =
    let refuses = RefusesQuestion g.H.RowHasher.laws g.row.N in
    let after = g.S.KeptSide.contents c.reply_to.new.side c.args.beside.now in
    let others = RefusesMessage g.H.RowHasher.laws g.row.N g.K.Encode.encoding after.tree c.args.message.now in
    IfErr-weaker c.reply_to.result (OfMessage (refuses after.tree c.in-Ok.question)) (OfMessage others)
    (λ fault. of_message_weaker (refuses after.tree c.in-Ok.question) others
    (λ error no of. (c.in-Ok.question, c.in-Ok.ensures.asks, no of)) fault) c.reply_to.ensures.others
