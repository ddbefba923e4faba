use Rattle.std.proofs.Common.{subst, sym, ◌∙◌}
use Rattle.std.proofs.lemmas.Result.{err_from_is_err_and}
use Rattle.merkle_delta.specs.Deltas.{IsDeltaOver}
use Rattle.merkle_delta.proofs.Asking.{told_alone}
use Rattle.merkle_delta.proofs.hearing.plain_reply.Goals as goal

pub returns-in_err-plain-clause-unlike : goal.returns-in_err-plain-clause-unlike
returns-in_err-plain-clause-unlike c =
    let p = err_from_is_err_and c.from_residual.result c.from_residual.ensures.1 in
    rw (p.1, p.2) (λ unlike plain told.
    let (delta, is, over) = told in
    let same = told_alone delta c.in-Some.delta.now (sym is ∙ c.in-Some.ensures) in
    c.in_err-plain.ensures.unlike unlike plain (subst (λ d. IsDeltaOver c.args.own.now d plain) (same ∙ sym c.new-reader.ensures.left) over))
