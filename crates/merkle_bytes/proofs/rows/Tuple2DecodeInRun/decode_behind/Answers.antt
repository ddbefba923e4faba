use Rattle.std.proofs.Common.{◌++◌, sym, ◌∙◌}
use Rattle.std.proofs.lemmas.List.{append_assoc}
use Rattle.std.proofs.lemmas.Result.{err_from_is_err_and}
use Rattle.merkle_bytes.specs.Keys.{key_behind}
use Rattle.merkle_bytes.specs.RunTelling.{behind_told}
use Rattle.merkle_bytes.proofs.Later.{refused_later, total_was}
use Rattle.merkle_bytes.proofs.rows.Tuple2DecodeInRun.decode_behind.Goals as goal

pub returns-in_err-value-clause-refused : goal.returns-in_err-value-clause-refused
returns-in_err-value-clause-refused g c =
    let p = err_from_is_err_and c.from_residual-in_err-value.result c.from_residual-in_err-value.ensures.1 in
    rw (p.1, p.2) (refused_later c.args.reader.now.total c.args.reader.now.left.now
    (key_behind c.args.run.now (g.K.Encode.encoding c.in_ok-key.key)) c.decode.new.reader.left.now c.in_err-value.field-0.0 c.in_ok-key.ensures.read
    (total_was c.decode.new.reader.total c.args.reader.now.total c.decode.new.reader.left.now c.in_err-value.field-0.0 c.decode.ensures.total c.in_err-value.ensures.refused))

pub returns-in_err-value-clause-malformed : goal.returns-in_err-value-clause-malformed
returns-in_err-value-clause-malformed g c =
    let p = err_from_is_err_and c.from_residual-in_err-value.result c.from_residual-in_err-value.ensures.1 in
    rw (p.1, p.2) (λ malformed row rest of e.
    let last = c.args.run.now in
    let key = g.K.Encode.encoding row.0 in
    let value = g.V.Encode.encoding row.1 in
    let told = behind_told last (g.K.Encode.encoding c.in_ok-key.key) key c.decode.new.reader.left.now (value ++ rest)
    (sym c.in_ok-key.ensures.read ∙ e ∙ append_assoc (key_behind last key) value rest) in
    c.in_err-value.ensures.malformed malformed row.1 rest of.1 told.1)
