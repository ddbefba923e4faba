use Rattle.std.proofs.Common.{rules, ◌≡◌, ◌≢◌, ◌⊎◌, Some, subst, sym, ap, ◌∙◌}
use Rattle.merkle_delta.specs.Chunks.{digest_of}
use Rattle.merkle_delta.specs.Hearing.{IsSafe}
use Rattle.merkle_delta.proofs.HeardReplies.{tells_none, tells_safely}
use Rattle.merkle_delta.proofs.hearing.Deltas.tells_only.Goals as goal

pub returns-in-Ok : goal.returns-in-Ok
returns-in-Ok c only =
    let some : c.args.self.now ≡ Some c.in-Some.told = search rules in
    subst (λ told. IsSafe told c.args.reply.now c.args.whole.now) (ap Some c.told.view_is ∙ sym some)
    (tells_safely c.told.inside.own c.args.reply.now c.args.whole.now c.in-Ok.plain.items c.in-Ok.ensures.plain
    (subst (λ bytes. (bytes ≡ c.args.whole.now) ⊎ (digest_of bytes ≢ digest_of c.args.whole.now)) c.deref.ensures.value (c.has_bytes_or_other_digest.ensures only)))

pub returns-in-Err-Unlike : goal.returns-in-Err-Unlike
returns-in-Err-Unlike c only =
    let some : c.args.self.now ≡ Some c.in-Some.told = search rules in
    subst (λ told. IsSafe told c.args.reply.now c.args.whole.now) (ap Some c.told.view_is ∙ sym some)
    (tells_none c.told.inside.own c.args.reply.now c.args.whole.now (c.in-Err-Unlike.ensures.unlike c.in-Err-Unlike.field-0-is))
