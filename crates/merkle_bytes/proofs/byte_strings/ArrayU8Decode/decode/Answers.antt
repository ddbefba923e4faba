use Rattle.std.proofs.Common.{rules, ◌≡◌, ◌++◌, length, ap, sym, ◌∙◌, arith}
use Rattle.std.proofs.lemmas.List.{append_assoc, length-append}
use Rattle.std.proofs.lemmas.Result.{err_from_is_err_and}
use Rattle.merkle_bytes.specs.Counts.{count_bytes, count_told}
use Rattle.merkle_bytes.specs.Encodings.{string_encoding}
use Rattle.merkle_bytes.proofs.Later.{refused_later, total_was}
use Rattle.merkle_bytes.proofs.byte_strings.ArrayU8Decode.decode.Goals as goal

pub returns-then-count-clause-malformed : goal.returns-then-count-clause-malformed
returns-then-count-clause-malformed g c = λ malformed array rest long e.
    let heads = count_told c.in_ok-count.count (length array) c.count.new.self.left.now (array ++ rest) (sym c.in_ok-count.ensures.read ∙ e ∙ append_assoc (count_bytes (length array)) array rest) in
    absurd (c.if-count.true (heads.0 ∙ long))

pub returns-in_err-array-clause-refused : goal.returns-in_err-array-clause-refused
returns-in_err-array-clause-refused g c =
    let p = err_from_is_err_and c.from_residual-in_err-array.result c.from_residual-in_err-array.ensures.1 in
    rw (p.1, p.2) (refused_later c.args.reader.now.total c.args.reader.now.left.now (count_bytes c.in_ok-count.count) c.count.new.self.left.now c.in_err-array.field-0.0 c.in_ok-count.ensures.read
    (total_was c.count.new.self.total c.args.reader.now.total c.count.new.self.left.now c.in_err-array.field-0.0 c.in_ok-count.ensures.total c.in_err-array.ensures.refused))

pub returns-in_err-array-clause-malformed : goal.returns-in_err-array-clause-malformed
returns-in_err-array-clause-malformed g c =
    let p = err_from_is_err_and c.from_residual-in_err-array.result c.from_residual-in_err-array.ensures.1 in
    rw (p.1, p.2) (λ malformed array rest long e.
    let heads = count_told c.in_ok-count.count (length array) c.count.new.self.left.now (array ++ rest) (sym c.in_ok-count.ensures.read ∙ e ∙ append_assoc (count_bytes (length array)) array rest) in
    absurd (omega (arith, c.in_err-array.ensures.malformed malformed, ap length heads.1, length-append array rest, long)))
