use Rattle.std.proofs.lemmas.Result.{err_from_is_err_and}
use Rattle.store_file.proofs.registers.RegisterDecode.decode.Goals as goal

pub returns-in_err-time-clause-malformed : goal.returns-in_err-time-clause-malformed
returns-in_err-time-clause-malformed c =
    let p = err_from_is_err_and c.from_residual.result c.from_residual.ensures.1 in
    rw (p.1, p.2) (λ malformed register rest of e. c.in_err-time.ensures.malformed malformed (register.time, (register.writer, record { value = register.value })) rest of e)
