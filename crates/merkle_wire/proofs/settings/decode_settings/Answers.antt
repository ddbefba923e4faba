use Rattle.std.proofs.Common.{◌∷◌, [], get_or, sym, ap, ◌∙◌}
use Rattle.std.proofs.lemmas.Result.{err_from_is_err_and}
use Rattle.merkle_bytes.specs.Counts.{count_bytes}
use Rattle.merkle_bytes.specs.declared.error.Expected.TheVariants.{PageFormat}
use Rattle.merkle_bytes.proofs.Later.{refused_here, refused_later}
use Rattle.merkle_wire.proofs.NoSettings.{refused_behind, two_read, no_format, no_number, no_sample}
use Rattle.merkle_wire.proofs.settings.decode_settings.Goals as goal

pub returns-in_default-clause-refused : goal.returns-in_default-clause-refused
returns-in_default-clause-refused g c =
    let one = c.in_ok-level_base in
    let other = c.in_ok-byte in
    let behind = c.array-2.new.self in
    let two = two_read one.field-0 other.field-0 c.args.reader.now.left.now c.array.new.self.left.now behind.left.now one.ensures.len other.ensures.len one.ensures.read other.ensures.read in
    refused_later c.args.reader.now.total c.args.reader.now.left.now (get_or one.field-0 0 0 ∷ get_or other.field-0 0 0 ∷ []) behind.left.now c.unexpected.result two
    (refused_here behind.total c.args.reader.now.total behind.left.now PageFormat c.unexpected.result (c.array-2.ensures.total ∙ c.array.ensures.total) c.unexpected.ensures tt)

pub returns-in_default-clause-malformed : goal.returns-in_default-clause-malformed
returns-in_default-clause-malformed g c = λ malformed settings rest of e.
    let one = c.in_ok-level_base in
    let other = c.in_ok-byte in
    let behind = c.array-2.new.self in
    let two = two_read one.field-0 other.field-0 c.args.reader.now.left.now c.array.new.self.left.now behind.left.now one.ensures.len other.ensures.len one.ensures.read other.ensures.read in
    no_format g.K.Encode.encoding g.K.Decode.is_value (get_or one.field-0 0 0) (get_or other.field-0 0 0) behind.left.now c.in_default.ensures settings rest of (sym two ∙ e)

pub returns-in_err-digest_bytes-clause-refused : goal.returns-in_err-digest_bytes-clause-refused
returns-in_err-digest_bytes-clause-refused g c =
    let p = err_from_is_err_and c.from_residual-in_err-digest_bytes.result c.from_residual-in_err-digest_bytes.ensures.1 in
    let one = c.in_ok-level_base in
    let other = c.in_ok-byte in
    let behind = c.array-2.new.self in
    let two = two_read one.field-0 other.field-0 c.args.reader.now.left.now c.array.new.self.left.now behind.left.now one.ensures.len other.ensures.len one.ensures.read other.ensures.read in
    rw (p.1, p.2) (refused_behind c.args.reader.now.total behind.total c.args.reader.now.left.now
    (get_or one.field-0 0 0 ∷ get_or other.field-0 0 0 ∷ []) behind.left.now c.in_err-digest_bytes.field-0.0 two
    (c.array-2.ensures.total ∙ c.array.ensures.total) c.in_err-digest_bytes.ensures.refused)

pub returns-in_err-digest_bytes-clause-malformed : goal.returns-in_err-digest_bytes-clause-malformed
returns-in_err-digest_bytes-clause-malformed g c =
    let p = err_from_is_err_and c.from_residual-in_err-digest_bytes.result c.from_residual-in_err-digest_bytes.ensures.1 in
    let one = c.in_ok-level_base in
    let other = c.in_ok-byte in
    let behind = c.array-2.new.self in
    let two = two_read one.field-0 other.field-0 c.args.reader.now.left.now c.array.new.self.left.now behind.left.now one.ensures.len other.ensures.len one.ensures.read other.ensures.read in
    rw (p.1, p.2) (λ malformed settings rest of e.
    no_number g.K.Encode.encoding g.K.Decode.is_value (get_or one.field-0 0 0) (get_or other.field-0 0 0) behind.left.now
    (c.in_err-digest_bytes.ensures.malformed malformed) settings rest of (sym two ∙ e))

pub returns-in_err-sample-clause-refused : goal.returns-in_err-sample-clause-refused
returns-in_err-sample-clause-refused g c =
    let p = err_from_is_err_and c.from_residual-in_err-sample.result c.from_residual-in_err-sample.ensures.1 in
    let one = c.in_ok-level_base in
    let other = c.in_ok-byte in
    let a = get_or one.field-0 0 0 in
    let b = get_or other.field-0 0 0 in
    let behind = c.count.new.self in
    let two = two_read one.field-0 other.field-0 c.args.reader.now.left.now c.array.new.self.left.now c.array-2.new.self.left.now one.ensures.len other.ensures.len
    one.ensures.read other.ensures.read in
    rw (p.1, p.2) (refused_behind c.args.reader.now.total behind.total c.args.reader.now.left.now (a ∷ b ∷ count_bytes c.in_ok-digest_bytes.digest_bytes) behind.left.now c.in_err-sample.field-0.0
    (two ∙ ap (λ t. a ∷ b ∷ t) c.in_ok-digest_bytes.ensures.read) (c.count.ensures.total ∙ c.array-2.ensures.total ∙ c.array.ensures.total) c.in_err-sample.ensures.refused)

pub returns-in_err-sample-clause-malformed : goal.returns-in_err-sample-clause-malformed
returns-in_err-sample-clause-malformed g c =
    let p = err_from_is_err_and c.from_residual-in_err-sample.result c.from_residual-in_err-sample.ensures.1 in
    let one = c.in_ok-level_base in
    let other = c.in_ok-byte in
    let a = get_or one.field-0 0 0 in
    let b = get_or other.field-0 0 0 in
    let two = two_read one.field-0 other.field-0 c.args.reader.now.left.now c.array.new.self.left.now c.array-2.new.self.left.now one.ensures.len other.ensures.len
    one.ensures.read other.ensures.read in
    rw (p.1, p.2) (λ malformed settings rest of e.
    no_sample g.K.Encode.encoding g.K.Decode.is_value a b c.in_ok-digest_bytes.digest_bytes c.count.new.self.left.now (c.in_err-sample.ensures.malformed malformed) settings rest of
    (sym (two ∙ ap (λ t. a ∷ b ∷ t) c.in_ok-digest_bytes.ensures.read) ∙ e))
