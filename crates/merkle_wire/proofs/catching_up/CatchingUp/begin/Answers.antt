use Rattle.std.proofs.Common.{◌≡◌, subst, sym}
use Rattle.std.proofs.lemmas.Result.{IfOk-weaker}
use Rattle.merkle_wire.specs.Questions.{IsQuestion}
use Rattle.merkle_wire.specs.Sessions.{IsKeyOf}
use Rattle.merkle_wire.specs.declared.question.Question.TheVariants.{Root}
use Rattle.merkle_wire.proofs.OwnKeys.{settings_with_key}
use Rattle.merkle_wire.proofs.catching_up.CatchingUp.begin.Goals as goal

pub returns-clause-keys : goal.returns-clause-keys
returns-clause-keys g c =
    let is_key = IsKeyOf g.K.Ord.cmp c.args.replica.now.rows in
    let settings = c.in_ok-settings_with.field-0 in
    IfOk-weaker c.begin.result (λ begun. begun.0.asked ≡ Root settings) (λ begun. IsQuestion is_key begun.0.asked)
    (λ begun is. subst (IsQuestion is_key) (sym is)
    (settings_with_key is_key settings c.in_ok-key.key c.in_ok-settings_with.ensures.few c.in_ok-settings_with.ensures.sample c.in_ok-key.ensures)) c.begin.ensures.asked
