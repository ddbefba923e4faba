use Rattle.std.proofs.Common.{◌++◌, ap, sym, ◌∙◌}
use Rattle.std.proofs.lemmas.List.{append_assoc}
use Rattle.std.proofs.lemmas.Result.{err_from_is_err_and}
use Rattle.merkle_bytes.specs.Runs.{bound_behind, bound_key}
use Rattle.merkle_bytes.specs.RunTelling.{bound_told}
use Rattle.merkle_bytes.proofs.Later.{refused_later, total_was}
use Rattle.merkle_wire.proofs.gaps.OwnedGapDecodeInRun.decode_behind.Goals as goal

pub returns-in_err-before-clause-refused : goal.returns-in_err-before-clause-refused
returns-in_err-before-clause-refused g c =
    let p = err_from_is_err_and c.from_residual-in_err-before.result c.from_residual-in_err-before.ensures.1 in
    rw (p.1, p.2) (refused_later c.args.reader.now.total c.args.reader.now.left.now
    (bound_behind g.K.Encode.encoding c.args.run.now c.in_ok-after.after) c.decode_behind.new.reader.left.now c.in_err-before.field-0.0 c.in_ok-after.ensures.read
    (total_was c.decode_behind.new.reader.total c.args.reader.now.total c.decode_behind.new.reader.left.now c.in_err-before.field-0.0 c.decode_behind.ensures.total c.in_err-before.ensures.refused))

pub returns-in_err-before-clause-malformed : goal.returns-in_err-before-clause-malformed
returns-in_err-before-clause-malformed g c =
    let p = err_from_is_err_and c.from_residual-in_err-before.result c.from_residual-in_err-before.ensures.1 in
    rw (p.1, p.2) (λ malformed gap rest of e.
    let encoding = g.K.Encode.encoding in
    let last = c.args.run.now in
    let came = c.in_ok-after.ensures in
    let first = bound_behind encoding last gap.after in
    let second = bound_behind encoding (bound_key encoding last gap.after) gap.before in
    let told = bound_told encoding g.K.PartialEq.eq g.met.K.Decode.told last c.in_ok-after.after gap.after c.decode_behind.new.reader.left.now (second ++ rest)
    (sym came.read ∙ e ∙ append_assoc first second rest) in
    c.in_err-before.ensures.malformed malformed gap.before rest of.1 (told.2 ∙ ap (λ k. bound_behind encoding k gap.before ++ rest) (sym told.1 ∙ sym came.last)))
