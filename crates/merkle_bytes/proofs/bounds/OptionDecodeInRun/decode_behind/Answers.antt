use Rattle.std.proofs.Common.{cond, [], ◌∷◌}
use Rattle.std.proofs.lemmas.Result.{err_from_is_err_and}
use Rattle.merkle_bytes.specs.Keys.{key_behind}
use Rattle.merkle_bytes.proofs.Flagged.{no_option}
use Rattle.merkle_bytes.proofs.Later.{refused_later, total_was}
use Rattle.merkle_bytes.proofs.bounds.OptionDecodeInRun.decode_behind.Goals as goal

pub returns-in_err-flag-clause-malformed : goal.returns-in_err-flag-clause-malformed
returns-in_err-flag-clause-malformed g c =
    let p = err_from_is_err_and c.from_residual.result c.from_residual.ensures.1 in
    rw (p.1, p.2) (λ malformed. no_option (λ k. key_behind c.args.run.now (g.K.Encode.encoding k)) g.K.Decode.is_value c.args.reader.now.left.now (c.in_err-flag.ensures.malformed malformed))

pub returns-in_err-decode-clause-refused : goal.returns-in_err-decode-clause-refused
returns-in_err-decode-clause-refused g c =
    let p = err_from_is_err_and c.from_residual-in_err-decode.result c.from_residual-in_err-decode.ensures.1 in
    rw (p.1, p.2) (refused_later c.args.reader.now.total c.args.reader.now.left.now (cond c.in_ok-flag.field-0 1 0 ∷ []) c.flag.new.self.left.now c.in_err-decode.field-0.0 c.in_ok-flag.ensures.read
    (total_was c.flag.new.self.total c.args.reader.now.total c.flag.new.self.left.now c.in_err-decode.field-0.0 c.flag.ensures.total c.in_err-decode.ensures.refused))
