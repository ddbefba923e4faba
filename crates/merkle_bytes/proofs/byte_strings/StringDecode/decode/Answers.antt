use Rattle.std.proofs.Common.{rules, ◌≡◌, ◌∙◌, string_bytes, subst, sym, false, true}
use Rattle.std.specs.Str.{IsUtf8}
use Rattle.std.proofs.lemmas.Str.{IsUtf8-string_bytes}
use Rattle.merkle_bytes.specs.Encodings.{string_encoding}
use Rattle.merkle_bytes.specs.Telling.{string_told}
use Rattle.merkle_bytes.specs.declared.error.Expected.TheVariants.{Text}
use Rattle.merkle_bytes.proofs.Later.{refused_here, refused_later}
use Rattle.merkle_bytes.proofs.byte_strings.StringDecode.decode.Goals as goal

pub returns-in-Err-clause-refused : goal.returns-in-Err-clause-refused
returns-in-Err-clause-refused c =
    let behind = c.byte_string.new.self.left.now in
    refused_later c.args.reader.now.total c.args.reader.now.left.now (string_encoding c.in_ok-bytes.bytes.now) behind c.unexpected.result c.in_ok-bytes.ensures.read
    (refused_here c.byte_string.new.self.total c.args.reader.now.total behind Text c.unexpected.result c.byte_string.ensures.total c.unexpected.ensures tt)

pub returns-in-Err-clause-malformed : goal.returns-in-Err-clause-malformed
returns-in-Err-clause-malformed c = λ malformed text rest of e.
    let both = string_told c.in_ok-bytes.bytes.now (string_bytes text) c.byte_string.new.self.left.now rest (sym c.in_ok-bytes.ensures.read ∙ e) in
    let same : c.in_ok-owned.owned.items ≡ string_bytes text = c.in_ok-owned.ensures.items ∙ both.0 in
    let utf8 : IsUtf8 c.in_ok-owned.owned.items = subst IsUtf8 (sym same) (IsUtf8-string_bytes text) in
    let wrong : false ≡ true = c.in-Err.ensures.succeeds utf8 in
    cc
