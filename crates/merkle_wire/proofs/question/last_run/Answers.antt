use Rattle.std.proofs.Common.{◌≡◌, true, [], append-nil, sym, ap, ◌∙◌}
use Rattle.std.proofs.lemmas.Result.{err_from_is_err_and}
use Rattle.merkle_bytes.specs.Runs.{run_bytes}
use Rattle.merkle_bytes.proofs.Listed.{run_told}
use Rattle.merkle_wire.proofs.NoSettings.{refused_behind}
use Rattle.merkle_wire.proofs.question.last_run.Goals as goal
use Rattle.key_order.specs.Map.{last_key}

pub returns-in_err-list-clause-malformed : goal.returns-in_err-list-clause-malformed
returns-in_err-list-clause-malformed g c =
    let p = err_from_is_err_and c.from_residual.result c.from_residual.ensures.1 in
    rw (p.1, p.2) (λ malformed list each e.
    let run = run_bytes g.T.EncodeInRun.bytes_behind g.T.EncodeInRun.last_key in
    c.in_err-list.ensures.malformed malformed list [] each (e ∙ ap (λ l. run l list) (sym c.new-run.ensures) ∙ sym (append-nil (run c.new-run.result list))))

pub returns-in_err-end-clause-refused : goal.returns-in_err-end-clause-refused
returns-in_err-end-clause-refused g c =
    let p = err_from_is_err_and c.from_residual-in_err-end.result c.from_residual-in_err-end.ensures.1 in
    let behind = c.decode_run.new.reader in
    rw (p.1, p.2) (refused_behind c.args.reader.total behind.total c.args.reader.left.now
    (run_bytes g.T.EncodeInRun.bytes_behind g.T.EncodeInRun.last_key c.new-run.result c.in_ok-list.list.items) behind.left.now
    c.in_err-end.field-0.0 c.in_ok-list.ensures.read c.decode_run.ensures.total c.in_err-end.ensures.refused)

pub returns-in_err-end-clause-malformed : goal.returns-in_err-end-clause-malformed
returns-in_err-end-clause-malformed g c =
    let p = err_from_is_err_and c.from_residual-in_err-end.result c.from_residual-in_err-end.ensures.1 in
    rw (p.1, p.2) (λ malformed list each e.
    let run = run_bytes g.T.EncodeInRun.bytes_behind g.T.EncodeInRun.last_key in
    let whole = e ∙ ap (λ l. run l list) (sym c.new-run.ensures) ∙ sym (append-nil (run c.new-run.result list)) in
    let told = run_told g.T.EncodeInRun.bytes_behind g.T.EncodeInRun.last_key
    (λ x y. g.T.PartialEq.eq x y ≡ true) g.met.T.DecodeInRun.told c.new-run.result c.in_ok-list.list.items list c.decode_run.new.reader.left.now []
    (sym c.in_ok-list.ensures.read ∙ whole) in
    c.in_err-end.ensures.malformed malformed told.2)
