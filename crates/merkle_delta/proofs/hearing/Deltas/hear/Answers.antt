use Rattle.std.proofs.Common.{rules, ◌≡◌, ℕ, List, Some, refl, subst, sym, ap, ◌∙◌}
use Rattle.merkle_delta.specs.Hearing.{IsHeard}
use Rattle.merkle_delta.specs.Messages.{IsReplyOver}
use Rattle.merkle_delta.specs.declared.hearing.Heard.TheVariants.{Again}
use Rattle.merkle_delta.proofs.hearing.Deltas.hear.Goals as goal

pub returns-clause-heard : goal.returns-clause-heard
returns-clause-heard c =
    let some : c.args.self.now ≡ Some c.in-Some.told = search rules in
    subst (λ told. IsHeard told c.args.reply.items (Again c.told.inside.question)) (ap Some c.told.view_is ∙ sym some)
    (refl, subst (λ bytes. (plain : List ℕ) → ¬ IsReplyOver c.told.inside.own bytes plain) c.deref.ensures.value (c.in-Err-Unlike.ensures.unlike c.in-Err-Unlike.field-0-is))
