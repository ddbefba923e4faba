use Rattle.std.proofs.Common.{rules, ◌≢◌, arith}
use Rattle.std.proofs.lemmas.Result.{err_from_is_err_and}
use Rattle.merkle_delta.specs.Chunks.{digest_of}
use Rattle.merkle_delta.proofs.Following.{delta_long, no_delta, other_digest}
use Rattle.merkle_delta.proofs.Stepping.{malformed_of}
use Rattle.merkle_delta.proofs.patch.patch.Goals as goal

pub returns-in_err-digest-clause-unlike : goal.returns-in_err-digest-clause-unlike
returns-in_err-digest-clause-unlike c =
    let p = err_from_is_err_and c.from_residual.result c.from_residual.ensures.1 in
    rw (p.1, p.2) (λ unlike bytes over. absurd
    (omega (arith, delta_long c.args.own.now c.args.reader.now.left.now bytes over, c.in_err-digest.ensures.malformed (malformed_of c.in_err-digest.field-0.0 unlike))))

pub returns-in_err-bytes-clause-unlike : goal.returns-in_err-bytes-clause-unlike
returns-in_err-bytes-clause-unlike c =
    let p = err_from_is_err_and c.from_residual-in_err-bytes.result c.from_residual-in_err-bytes.ensures.1 in
    rw (p.1, p.2) (λ unlike bytes. no_delta c.args.own.now c.args.reader.now.left.now bytes c.in_ok-digest.digest c.array.new.self.left.now c.in_ok-digest.ensures.read c.in_ok-digest.ensures.len
    (c.in_err-bytes.ensures.unlike unlike))

pub returns-clause-unlike : goal.returns-clause-unlike
returns-clause-unlike c =
    let other : digest_of c.in_ok-bytes.bytes.items ≢ c.in_ok-digest.digest = search rules in
    λ unlike bytes. other_digest c.args.own.now c.args.reader.now.left.now bytes c.in_ok-digest.digest c.array.new.self.left.now c.in_ok-bytes.bytes.items
    c.in_ok-digest.ensures.read c.in_ok-digest.ensures.len c.in_ok-bytes.ensures.given other
