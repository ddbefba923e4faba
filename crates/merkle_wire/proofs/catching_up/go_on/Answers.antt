use Rattle.std.proofs.Common.{length, ap, subst, sym, ◌∙◌, ◌≤◌, Some}
use Rattle.std.proofs.lemmas.Result.{IfErr-weaker, IfOk-weaker, err_from_is_err_and}
use Rattle.merkle_wire.specs.Limits.{Allows}
use Rattle.merkle_wire.specs.Next.{GoesOn, HasLeft, IsAsked, IsCame, IsEnded, IfAsks}
use Rattle.merkle_wire.proofs.NextMessages.{asked_goes_on, came_few, came_goes_on, outlines_of_some, twice_ends}
use Rattle.merkle_wire.proofs.WithinLimits.{asked_allowed, came_within}
use Rattle.merkle_wire.proofs.catching_up.go_on.Goals as goal
use Rattle.merkle_wire.specs.Underway.{IsAskedOf}

pub returns-in_ok-rounds-in-Some-clause-goes_on : goal.returns-in_ok-rounds-in-Some-clause-goes_on
returns-in_ok-rounds-in-Some-clause-goes_on g c =
    let question = c.in-Some.question in
    IfOk-weaker c.ask.result (IsAsked g.K.Encode.encoding question c.next_question.new.self c.in_ok-rounds-in-Some.rounds) (GoesOn g.K.Ord.cmp g.K.Encode.encoding c.args.rounds c.args.work)
    (λ next asked. asked_goes_on g.K.Ord.cmp g.K.Encode.encoding question c.args.work c.next_question.new.self c.args.rounds c.in_ok-rounds-in-Some.rounds next asked
    (rw c.in-Some.is at c.in_ok-next_question.ensures) c.in_ok-rounds-in-Some.ensures.with) c.ask.ensures.asked

pub returns-in-None-clause-ended : goal.returns-in-None-clause-ended
returns-in-None-clause-ended g c =
    let done = rw c.in-None.is at c.in_ok-next_question.ensures in
    IfErr-weaker c.came.result _ (IsEnded g.K.Ord.cmp c.args.rounds c.args.work)
    (λ error twice. twice_ends g.K.Ord.cmp c.args.rounds c.args.work c.next_question.new.self c.into_rows.result.items error done c.into_rows.ensures twice) c.came.ensures.ended

pub returns-in_err-rounds-in-Some-clause-ended : goal.returns-in_err-rounds-in-Some-clause-ended
returns-in_err-rounds-in-Some-clause-ended g c =
    let p = err_from_is_err_and c.from_residual-in_err-rounds-in-Some.result c.from_residual-in_err-rounds-in-Some.ensures.1 in
    let (is, many, (most, gaps, asks)) = c.in_err-rounds-in-Some.ensures.many in
    rw (p.1, p.2) (subst (IsEnded g.K.Ord.cmp c.args.rounds c.args.work) (sym is) (
      many,
      outlines_of_some g.K.Ord.cmp most gaps c.args.work c.next_question.new.self
          (subst (λ q. IsAskedOf (Some q) c.args.work c.next_question.new.self) asks (rw c.in-Some.is at c.in_ok-next_question.ensures)),
    ))

pub returns-in-None-clause-goes_on : goal.returns-in-None-clause-goes_on
returns-in-None-clause-goes_on g c =
    let done = rw c.in-None.is at c.in_ok-next_question.ensures in
    IfOk-weaker c.came.result (IsCame g.K.Ord.cmp c.into_rows.result.items) (GoesOn g.K.Ord.cmp g.K.Encode.encoding c.args.rounds c.args.work)
    (λ next came. came_goes_on g.K.Ord.cmp g.K.Encode.encoding c.args.rounds c.args.work c.next_question.new.self c.into_rows.result.items next done c.into_rows.ensures came) c.came.ensures.came

pub returns-in-None-clause-few : goal.returns-in-None-clause-few
returns-in-None-clause-few g c =
    IfOk-weaker c.came.result (IsCame g.K.Ord.cmp c.into_rows.result.items) (IfAsks (λ session. session.rounds ≤ 256))
    (λ next. came_few g.K.Ord.cmp c.into_rows.result.items next) c.came.ensures.came

pub ask-requires-clause-limits : goal.ask-requires-clause-limits
ask-requires-clause-limits g c = asked_allowed c.args.left.rows c.in-Some.question c.args.work c.next_question.new.self (rw c.in-Some.is at c.in_ok-next_question.ensures) c.requires.limits

pub returns-in-None-clause-limits : goal.returns-in-None-clause-limits
returns-in-None-clause-limits g c =
    let rows = c.into_rows.ensures ∙ ap (λ f. f.rows) (rw c.in-None.is at c.in_ok-next_question.ensures).1 in
    IfOk-weaker c.came.result (IsCame g.K.Ord.cmp c.into_rows.result.items) (HasLeft c.args.left)
    (λ next came. came_within g.K.Ord.cmp c.args.left c.into_rows.result.items next (subst (λ rs. Allows c.args.left.rows (length rs)) (sym rows) c.requires.limits) came) c.came.ensures.came
