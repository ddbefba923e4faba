use Rattle.std.proofs.Common.{◌++◌, length, sym, ap, ◌∙◌}
use Rattle.std.proofs.lemmas.Result.{err_from_is_err_and}
use Rattle.merkle_bytes.specs.Counts.{count_bytes}
use Rattle.merkle_bytes.specs.declared.error.Expected.TheVariants.{Question}
use Rattle.merkle_bytes.proofs.Later.{refused_here, refused_later}
use Rattle.merkle_wire.specs.Messages.{front}
use Rattle.merkle_wire.specs.Settings.{settings_bytes}
use Rattle.merkle_wire.proofs.NoQuestion.{more_behind, no_asking, no_front, no_gaps, no_gaps_of_nodes, no_settings}
use Rattle.merkle_wire.proofs.NoSettings.{refused_behind}
use Rattle.merkle_wire.proofs.question.decode_question.Goals as goal

pub returns-in_err-decode_kind-clause-malformed : goal.returns-in_err-decode_kind-clause-malformed
returns-in_err-decode_kind-clause-malformed g c =
    let p = err_from_is_err_and c.from_residual.result c.from_residual.ensures.1 in
    rw (p.1, p.2) (λ malformed.
    no_front g.K.Encode.encoding g.K.Decode.is_value c.args.message.now (λ kind rest e. c.in_err-decode_kind.ensures.malformed malformed kind rest (c.new-reader.ensures.left ∙ e)))

pub returns-in_err-settings-in-AskRoot-clause-malformed : goal.returns-in_err-settings-in-AskRoot-clause-malformed
returns-in_err-settings-in-AskRoot-clause-malformed g c =
    let p = err_from_is_err_and c.from_residual-in_err-settings-in-AskRoot.result c.from_residual-in_err-settings-in-AskRoot.ensures.1 in
    let left = c.decode_kind.new.reader.left.now in
    let is = sym c.new-reader.ensures.left ∙ c.in_ok-decode_kind.ensures.read ∙ ap (λ k. front k ++ left) c.in-AskRoot.is in
    rw (p.1, p.2) (λ malformed. no_settings g.K.Encode.encoding g.K.Decode.is_value c.args.message.now left is (c.in_err-settings-in-AskRoot.ensures.malformed malformed))

pub returns-in_err-settings-in-AskRoot-clause-refused : goal.returns-in_err-settings-in-AskRoot-clause-refused
returns-in_err-settings-in-AskRoot-clause-refused g c =
    let p = err_from_is_err_and c.from_residual-in_err-settings-in-AskRoot.result c.from_residual-in_err-settings-in-AskRoot.ensures.1 in
    let was = sym c.new-reader.ensures.left ∙ c.in_ok-decode_kind.ensures.read in
    rw (p.1, p.2) (refused_behind (length c.args.message.now) c.decode_kind.new.reader.total c.args.message.now
    (front c.in_ok-decode_kind.field-0) c.decode_kind.new.reader.left.now c.in_err-settings-in-AskRoot.field-0.0
    was (c.decode_kind.ensures.total ∙ c.new-reader.ensures.total) c.in_err-settings-in-AskRoot.ensures.refused)

pub returns-in_err-end-in-AskRoot-clause-malformed : goal.returns-in_err-end-in-AskRoot-clause-malformed
returns-in_err-end-in-AskRoot-clause-malformed g c =
    let p = err_from_is_err_and c.from_residual-in_err-end-in-AskRoot.result c.from_residual-in_err-end-in-AskRoot.ensures.1 in
    let left = c.decode_kind.new.reader.left.now in
    let is = sym c.new-reader.ensures.left ∙ c.in_ok-decode_kind.ensures.read ∙ ap (λ k. front k ++ left) c.in-AskRoot.is in
    let came = c.in_ok-settings-in-AskRoot in
    rw (p.1, p.2) (λ malformed.
    more_behind g.K.Encode.encoding g.K.Decode.is_value g.K.PartialEq.eq g.met.K.Decode.told c.args.message.now left c.decode_settings.new.reader.left.now came.settings
    is came.ensures.read (c.in_err-end-in-AskRoot.ensures.malformed malformed))

pub returns-in_err-end-in-AskRoot-clause-refused : goal.returns-in_err-end-in-AskRoot-clause-refused
returns-in_err-end-in-AskRoot-clause-refused g c =
    let p = err_from_is_err_and c.from_residual-in_err-end-in-AskRoot.result c.from_residual-in_err-end-in-AskRoot.ensures.1 in
    let was = sym c.new-reader.ensures.left ∙ c.in_ok-decode_kind.ensures.read in
    let came = c.in_ok-settings-in-AskRoot in
    let kind = front c.in_ok-decode_kind.field-0 in
    rw (p.1, p.2) (refused_behind (length c.args.message.now) c.decode_settings.new.reader.total c.args.message.now
    (kind ++ settings_bytes g.K.Encode.encoding came.settings) c.decode_settings.new.reader.left.now c.in_err-end-in-AskRoot.field-0.0
    (was ∙ ap (λ t. kind ++ t) came.ensures.read) (c.decode_settings.ensures.total ∙ c.decode_kind.ensures.total ∙ c.new-reader.ensures.total) c.in_err-end-in-AskRoot.ensures.refused)

pub returns-in_err-most-in-AskOutlines-clause-refused : goal.returns-in_err-most-in-AskOutlines-clause-refused
returns-in_err-most-in-AskOutlines-clause-refused g c =
    let p = err_from_is_err_and c.from_residual-in_err-most-in-AskOutlines.result c.from_residual-in_err-most-in-AskOutlines.ensures.1 in
    let was = sym c.new-reader.ensures.left ∙ c.in_ok-decode_kind.ensures.read in
    rw (p.1, p.2) (refused_behind (length c.args.message.now) c.decode_kind.new.reader.total c.args.message.now
    (front c.in_ok-decode_kind.field-0) c.decode_kind.new.reader.left.now c.in_err-most-in-AskOutlines.field-0.0
    was (c.decode_kind.ensures.total ∙ c.new-reader.ensures.total) c.in_err-most-in-AskOutlines.ensures.refused)

pub returns-in_err-last_run-in-AskOutlines-clause-malformed : goal.returns-in_err-last_run-in-AskOutlines-clause-malformed
returns-in_err-last_run-in-AskOutlines-clause-malformed g c =
    let p = err_from_is_err_and c.from_residual-in_err-last_run-in-AskOutlines.result c.from_residual-in_err-last_run-in-AskOutlines.ensures.1 in
    let left = c.decode_kind.new.reader.left.now in
    let is = sym c.new-reader.ensures.left ∙ c.in_ok-decode_kind.ensures.read ∙ ap (λ k. front k ++ left) c.in-AskOutlines.is in
    let came = c.in_ok-most-in-AskOutlines in
    rw (p.1, p.2) (λ malformed.
    no_gaps g.K.Encode.encoding g.K.Decode.is_value c.args.message.now left came.most c.count.new.self.left.now is came.ensures.read (c.in_err-last_run-in-AskOutlines.ensures.malformed malformed))

pub returns-in_err-last_run-in-AskOutlines-clause-refused : goal.returns-in_err-last_run-in-AskOutlines-clause-refused
returns-in_err-last_run-in-AskOutlines-clause-refused g c =
    let p = err_from_is_err_and c.from_residual-in_err-last_run-in-AskOutlines.result c.from_residual-in_err-last_run-in-AskOutlines.ensures.1 in
    let was = sym c.new-reader.ensures.left ∙ c.in_ok-decode_kind.ensures.read in
    let came = c.in_ok-most-in-AskOutlines in
    let kind = front c.in_ok-decode_kind.field-0 in
    rw (p.1, p.2) (refused_behind (length c.args.message.now) c.count.new.self.total c.args.message.now
    (kind ++ count_bytes came.most) c.count.new.self.left.now c.in_err-last_run-in-AskOutlines.field-0.0
    (was ∙ ap (λ t. kind ++ t) came.ensures.read) (c.count.ensures.total ∙ c.decode_kind.ensures.total ∙ c.new-reader.ensures.total) c.in_err-last_run-in-AskOutlines.ensures.refused)

pub returns-in_err-most-in-AskNodes-clause-refused : goal.returns-in_err-most-in-AskNodes-clause-refused
returns-in_err-most-in-AskNodes-clause-refused g c =
    let p = err_from_is_err_and c.from_residual-in_err-most-in-AskNodes.result c.from_residual-in_err-most-in-AskNodes.ensures.1 in
    let was = sym c.new-reader.ensures.left ∙ c.in_ok-decode_kind.ensures.read in
    rw (p.1, p.2) (refused_behind (length c.args.message.now) c.decode_kind.new.reader.total c.args.message.now
    (front c.in_ok-decode_kind.field-0) c.decode_kind.new.reader.left.now c.in_err-most-in-AskNodes.field-0.0
    was (c.decode_kind.ensures.total ∙ c.new-reader.ensures.total) c.in_err-most-in-AskNodes.ensures.refused)

pub returns-in_err-last_run-in-AskNodes-clause-malformed : goal.returns-in_err-last_run-in-AskNodes-clause-malformed
returns-in_err-last_run-in-AskNodes-clause-malformed g c =
    let p = err_from_is_err_and c.from_residual-in_err-last_run-in-AskNodes.result c.from_residual-in_err-last_run-in-AskNodes.ensures.1 in
    let left = c.decode_kind.new.reader.left.now in
    let is = sym c.new-reader.ensures.left ∙ c.in_ok-decode_kind.ensures.read ∙ ap (λ k. front k ++ left) c.in-AskNodes.is in
    let came = c.in_ok-most-in-AskNodes in
    rw (p.1, p.2) (λ malformed.
    no_gaps_of_nodes g.K.Encode.encoding g.K.Decode.is_value c.args.message.now left came.most c.count-in-AskNodes.new.self.left.now is came.ensures.read
    (c.in_err-last_run-in-AskNodes.ensures.malformed malformed))

pub returns-in_err-last_run-in-AskNodes-clause-refused : goal.returns-in_err-last_run-in-AskNodes-clause-refused
returns-in_err-last_run-in-AskNodes-clause-refused g c =
    let p = err_from_is_err_and c.from_residual-in_err-last_run-in-AskNodes.result c.from_residual-in_err-last_run-in-AskNodes.ensures.1 in
    let was = sym c.new-reader.ensures.left ∙ c.in_ok-decode_kind.ensures.read in
    let came = c.in_ok-most-in-AskNodes in
    let kind = front c.in_ok-decode_kind.field-0 in
    rw (p.1, p.2) (refused_behind (length c.args.message.now) c.count-in-AskNodes.new.self.total c.args.message.now
    (kind ++ count_bytes came.most) c.count-in-AskNodes.new.self.left.now c.in_err-last_run-in-AskNodes.field-0.0
    (was ∙ ap (λ t. kind ++ t) came.ensures.read) (c.count-in-AskNodes.ensures.total ∙ c.decode_kind.ensures.total ∙ c.new-reader.ensures.total) c.in_err-last_run-in-AskNodes.ensures.refused)

pub returns-in_err-last_run-in-AskRowsAt-clause-refused : goal.returns-in_err-last_run-in-AskRowsAt-clause-refused
returns-in_err-last_run-in-AskRowsAt-clause-refused g c =
    let p = err_from_is_err_and c.from_residual-in_err-last_run-in-AskRowsAt.result c.from_residual-in_err-last_run-in-AskRowsAt.ensures.1 in
    let was = sym c.new-reader.ensures.left ∙ c.in_ok-decode_kind.ensures.read in
    rw (p.1, p.2) (refused_behind (length c.args.message.now) c.decode_kind.new.reader.total c.args.message.now
    (front c.in_ok-decode_kind.field-0) c.decode_kind.new.reader.left.now c.in_err-last_run-in-AskRowsAt.field-0.0
    was (c.decode_kind.ensures.total ∙ c.new-reader.ensures.total) c.in_err-last_run-in-AskRowsAt.ensures.refused)

pub returns-in_err-last_run-in-AskRowsIn-clause-refused : goal.returns-in_err-last_run-in-AskRowsIn-clause-refused
returns-in_err-last_run-in-AskRowsIn-clause-refused g c =
    let p = err_from_is_err_and c.from_residual-in_err-last_run-in-AskRowsIn.result c.from_residual-in_err-last_run-in-AskRowsIn.ensures.1 in
    let was = sym c.new-reader.ensures.left ∙ c.in_ok-decode_kind.ensures.read in
    rw (p.1, p.2) (refused_behind (length c.args.message.now) c.decode_kind.new.reader.total c.args.message.now
    (front c.in_ok-decode_kind.field-0) c.decode_kind.new.reader.left.now c.in_err-last_run-in-AskRowsIn.field-0.0
    was (c.decode_kind.ensures.total ∙ c.new-reader.ensures.total) c.in_err-last_run-in-AskRowsIn.ensures.refused)

pub returns-in_default-clause-malformed : goal.returns-in_default-clause-malformed
returns-in_default-clause-malformed g c = λ malformed.
    let was = sym c.new-reader.ensures.left ∙ c.in_ok-decode_kind.ensures.read in
    let other = c.in_default in
    no_asking g.K.Encode.encoding g.K.Decode.is_value c.args.message.now c.decode_kind.new.reader.left.now c.in_ok-decode_kind.field-0 was
    other.not-AskRoot other.not-AskOutlines other.not-AskNodes other.not-AskRowsAt other.not-AskRowsIn

pub returns-in_default-clause-refused : goal.returns-in_default-clause-refused
returns-in_default-clause-refused g c =
    let was = sym c.new-reader.ensures.left ∙ c.in_ok-decode_kind.ensures.read in
    let behind = c.decode_kind.new.reader in
    refused_later (length c.args.message.now) c.args.message.now (front c.in_ok-decode_kind.field-0) behind.left.now c.unexpected.result was
    (refused_here behind.total (length c.args.message.now) behind.left.now Question c.unexpected.result (c.decode_kind.ensures.total ∙ c.new-reader.ensures.total) c.unexpected.ensures tt)
