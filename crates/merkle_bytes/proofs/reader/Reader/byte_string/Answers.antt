use Rattle.std.proofs.Common.{rules, ◌≡◌, ◌<◌, ◌^◌, ◌++◌, length, ap, sym, arith, ◌∙◌}
use Rattle.std.proofs.lemmas.List.{append_assoc, length-append}
use Rattle.std.proofs.lemmas.Result.{err_from_is_err_and}
use Rattle.merkle_bytes.specs.Counts.{count_bytes, count_told}
use Rattle.merkle_bytes.specs.declared.error.Expected.TheVariants.{Bytes}
use Rattle.merkle_bytes.proofs.Later.{refused_here, refused_later}
use Rattle.merkle_bytes.proofs.reader.Reader.byte_string.Goals as goal

pub returns-in_err-len-clause-malformed : goal.returns-in_err-len-clause-malformed
returns-in_err-len-clause-malformed c =
    let p = err_from_is_err_and c.from_residual.result c.from_residual.ensures.1 in
    let left = c.args.self.now.left.now in
    let fits : length left < 2 ^ 64 = search rules in
    rw (p.1, p.2) (λ malformed bytes rest e.
    let flat = e ∙ append_assoc (count_bytes (length bytes)) bytes rest in
    c.in_err-len.ensures.malformed malformed (length bytes) (bytes ++ rest)
    (omega (arith, fits, ap length flat, length-append (count_bytes (length bytes)) (bytes ++ rest), length-append bytes rest)) flat)

pub returns-in_default-clause-refused : goal.returns-in_default-clause-refused
returns-in_default-clause-refused c =
    let behind = c.count.new.self.left.now in
    let short : length behind < c.in_ok-len.len = search rules in
    let total : c.count.new.self.total ≡ c.args.self.now.total = search rules in
    refused_later c.args.self.now.total c.args.self.now.left.now (count_bytes c.in_ok-len.len) behind c.unexpected.result c.in_ok-len.ensures.read
    (refused_here c.count.new.self.total c.args.self.now.total behind (Bytes c.in_ok-len.len) c.unexpected.result total c.unexpected.ensures short)

pub returns-in_default-clause-malformed : goal.returns-in_default-clause-malformed
returns-in_default-clause-malformed c = λ malformed bytes rest e.
    let behind = c.count.new.self.left.now in
    let short : length behind < c.in_ok-len.len = search rules in
    let flat = sym c.in_ok-len.ensures.read ∙ e ∙ append_assoc (count_bytes (length bytes)) bytes rest in
    let heads = count_told c.in_ok-len.len (length bytes) behind (bytes ++ rest) flat in
    absurd (omega (arith, short, heads.0, ap length heads.1, length-append bytes rest))
