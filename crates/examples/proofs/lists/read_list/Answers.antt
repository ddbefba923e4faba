use Rattle.std.proofs.Common.{rules, ◌≡◌, [], sym, ◌∙◌}
use Rattle.std.proofs.lemmas.List.{append-nil}
use Rattle.std.proofs.lemmas.Result.{err_from_is_err_and}
use Rattle.merkle_bytes.specs.Encodings.{list_bytes}
use Rattle.examples.specs.Wire.{wire_fault_of}
use Rattle.examples.specs.declared.wire.WireFault.TheVariants.{Malformed}
use Rattle.examples.proofs.Told.{malformed_of}
use Rattle.examples.proofs.lists.read_list.Goals as goal

pub returns-in_err-list-clause-malformed : goal.returns-in_err-list-clause-malformed
returns-in_err-list-clause-malformed g c is list each e =
    let p = err_from_is_err_and c.from_residual.result c.from_residual.ensures.1 in
    let why : wire_fault_of c.in_err-list.field-0.0 ≡ Malformed = search rules in
    c.in_err-list.ensures.malformed (malformed_of c.in_err-list.field-0.0 why) list [] each (c.new-reader.ensures.left ∙ e ∙ sym (append-nil (list_bytes g.T.Encode.encoding list)))

-- the bytes tell the list, and where it ends
pub returns-in_err-end-clause-malformed : goal.returns-in_err-end-clause-malformed
returns-in_err-end-clause-malformed g c is list each e =
    let p = err_from_is_err_and c.from_residual-in_err-end.result c.from_residual-in_err-end.ensures.1 in
    let why : wire_fault_of c.in_err-end.field-0.0 ≡ Malformed = search rules in
    let told = c.bytes_tell_lists.ensures c.in_ok-list.list.items list c.decode_list.new.reader.left.now []
    (sym c.in_ok-list.ensures.read ∙ c.new-reader.ensures.left ∙ e ∙ sym (append-nil (list_bytes g.T.Encode.encoding list))) in
    c.in_err-end.ensures.malformed (malformed_of c.in_err-end.field-0.0 why) told.1
