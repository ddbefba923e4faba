use Rattle.std.proofs.Common.{sym, ◌∙◌}
use Rattle.std.proofs.lemmas.Result.{err_from_is_err_and}
use Rattle.merkle_wire.proofs.Fronts.{refused_unread}
use Rattle.merkle_wire.proofs.Unfit.{no_root-digest, no_root-end}
use Rattle.merkle_wire.proofs.replies.decode_root.Goals as goal

pub returns-in_err-digest-clause-refused : goal.returns-in_err-digest-clause-refused
returns-in_err-digest-clause-refused c =
    let p = err_from_is_err_and c.from_residual-in_err-digest.result c.from_residual-in_err-digest.ensures.1 in
    let left = c.expect.new.reader.left.now in
    rw (p.1, p.2) (refused_unread _ c.in_err-digest.field-0.0 (λ malformed.
    no_root-digest c.args.reply.now c.in_ok-rows.rows left c.count.new.self.left.now (sym c.new-reader.ensures.left ∙ c.in_ok-expect.ensures.read) c.in_ok-rows.ensures.read
    (c.in_err-digest.ensures.malformed malformed)))

pub returns-in_err-end-clause-refused : goal.returns-in_err-end-clause-refused
returns-in_err-end-clause-refused c =
    let p = err_from_is_err_and c.from_residual-in_err-end.result c.from_residual-in_err-end.ensures.1 in
    let left = c.expect.new.reader.left.now in
    let digest = c.in_ok-digest in
    rw (p.1, p.2) (refused_unread _ c.in_err-end.field-0.0 (λ malformed.
    no_root-end c.args.reply.now c.in_ok-rows.rows digest.digest left c.count.new.self.left.now c.decode_page.new.reader.left.now
    (sym c.new-reader.ensures.left ∙ c.in_ok-expect.ensures.read) c.in_ok-rows.ensures.read digest.ensures.read digest.ensures.len (c.in_err-end.ensures.malformed malformed)))
