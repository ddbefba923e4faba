use Rattle.std.proofs.lemmas.Result.{err_from_is_err_and}
use Rattle.merkle_wire.proofs.Unfit.{no_page_digest}
use Rattle.merkle_wire.proofs.pages.decode_page.Goals as goal

pub returns-in_err-flag-clause-malformed : goal.returns-in_err-flag-clause-malformed
returns-in_err-flag-clause-malformed c =
    let p = err_from_is_err_and c.from_residual.result c.from_residual.ensures.1 in
    rw (p.1, p.2) (λ malformed page rest is. no_page_digest c.args.reader.now.left.now (c.in_err-flag.ensures.malformed malformed) page rest is)
