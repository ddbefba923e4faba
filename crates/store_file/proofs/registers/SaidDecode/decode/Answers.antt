use Rattle.std.proofs.Common.{refl, ◌∙◌}
use Rattle.std.proofs.lemmas.Result.{err_from_is_err_and}
use Rattle.merkle_bytes.proofs.Later.{refused_here, refused_later, total_was}
use Rattle.merkle_bytes.specs.declared.error.Expected.TheVariants.{Kind}
use Rattle.store_file.proofs.Marked.{other_kind}
use Rattle.store_file.proofs.registers.SaidDecode.decode.Goals as goal

pub returns-in_err-bytes-clause-refused : goal.returns-in_err-bytes-clause-refused
returns-in_err-bytes-clause-refused c =
    let p = err_from_is_err_and c.from_residual-in_err-bytes.result c.from_residual-in_err-bytes.ensures.1 in
    let reader = c.args.reader.now in
    let behind = c.array.new.self in
    let why = c.in_err-bytes.field-0.0 in
    rw (p.1, p.2) (refused_later reader.total reader.left.now c.in_ok-mark.field-0 behind.left.now why c.in_ok-mark.ensures.read
    (total_was behind.total reader.total behind.left.now why c.array.ensures.total c.in_err-bytes.ensures.refused))

pub returns-then-mark-clause-refused : goal.returns-then-mark-clause-refused
returns-then-mark-clause-refused c =
    let reader = c.args.reader.now in
    refused_here reader.total reader.total reader.left.now Kind c.unexpected-misplaced.result refl c.unexpected-misplaced.ensures tt

pub returns-then-mark-clause-malformed : goal.returns-then-mark-clause-malformed
returns-then-mark-clause-malformed c = λ malformed said rest formed e.
    other_kind c.args.reader.now.left.now c.in_ok-mark.field-0 c.array.new.self.left.now c.in_ok-bytes.bytes.now c.byte_string.new.self.left.now
    c.of-value.result c.in_ok-mark.ensures.len c.in_ok-mark.ensures.read
    c.in_ok-bytes.ensures.read c.if-mark-eq0.false (rw c.in_ok-from_slice.ensures.items at c.of-value.ensures) (λ same. c.if-mark.true (c.mark.ensures ∙ same)) said.value rest formed e
