use Rattle.std.proofs.Common.{◌++◌, sym, ◌∙◌}
use Rattle.std.proofs.lemmas.List.{append_assoc}
use Rattle.std.proofs.lemmas.Result.{err_from_is_err_and}
use Rattle.merkle_bytes.proofs.Later.{refused_later, total_was}
use Rattle.merkle_bytes.proofs.pairs.Tuple2Decode.decode.Goals as goal

pub returns-in_err-second-clause-refused : goal.returns-in_err-second-clause-refused
returns-in_err-second-clause-refused g c =
    let p = err_from_is_err_and c.from_residual-in_err-second.result c.from_residual-in_err-second.ensures.1 in
    rw (p.1, p.2) (refused_later c.args.reader.now.total c.args.reader.now.left.now
    (g.A.Encode.encoding c.in_ok-first.first) c.decode.new.reader.left.now c.in_err-second.field-0.0 c.in_ok-first.ensures.read
    (total_was c.decode.new.reader.total c.args.reader.now.total c.decode.new.reader.left.now c.in_err-second.field-0.0 c.decode.ensures.total c.in_err-second.ensures.refused))

pub returns-in_err-second-clause-malformed : goal.returns-in_err-second-clause-malformed
returns-in_err-second-clause-malformed g c =
    let p = err_from_is_err_and c.from_residual-in_err-second.result c.from_residual-in_err-second.ensures.1 in
    rw (p.1, p.2) (λ malformed pair rest of e.
    let first = g.met.A.Decode.told c.in_ok-first.first pair.0 c.decode.new.reader.left.now (g.B.Encode.encoding pair.1 ++ rest)
    (sym c.in_ok-first.ensures.read ∙ e ∙ append_assoc (g.A.Encode.encoding pair.0) (g.B.Encode.encoding pair.1) rest) in
    c.in_err-second.ensures.malformed malformed pair.1 rest of.1 first.1)
