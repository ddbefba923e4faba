use Rattle.std.proofs.Common.{rules, ◌≡◌, ◌≢◌, ◌++◌, [], List, ℕ, append-nil, sym, ◌∙◌}
use Rattle.std.proofs.lemmas.Result.{err_from_is_err_and}
use Rattle.merkle_bytes.proofs.key_run.whole_key.Goals as goal

pub returns-in_err-key-clause-malformed : goal.returns-in_err-key-clause-malformed
returns-in_err-key-clause-malformed g c =
    let p = err_from_is_err_and c.from_residual.result c.from_residual.ensures.1 in
    rw (p.1, p.2) (λ malformed key of e. c.in_err-key.ensures.malformed malformed key [] of (c.new-reader.ensures.left ∙ e ∙ sym (append-nil (g.K.Encode.encoding key))))

pub returns-in_err-end-clause-malformed : goal.returns-in_err-end-clause-malformed
returns-in_err-end-clause-malformed g c =
    let p = err_from_is_err_and c.from_residual-in_err-end.result c.from_residual-in_err-end.ensures.1 in
    rw (p.1, p.2) (λ malformed key of e.
    let told = g.met.K.Decode.told c.in_ok-key.key key c.decode.new.reader.left.now [] (sym c.in_ok-key.ensures.read ∙ c.new-reader.ensures.left ∙ e ∙ sym (append-nil (g.K.Encode.encoding key))) in
    c.in_err-end.ensures.malformed malformed told.1)
