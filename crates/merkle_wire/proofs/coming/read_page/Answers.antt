use Rattle.std.proofs.Common.{◌≡◌, ◌≢◌, [], ◌+◌, ◌++◌, map, sym, ap, subst, ◌∙◌, length}
use Rattle.std.proofs.lemmas.List.{length-map}
use Rattle.std.proofs.lemmas.Result.{err_from_is_err_and}
use Rattle.key_order.specs.Order.{Same}
use Rattle.merkle_wire.specs.Coming.{AscendIn, IsPageDigest}
use Rattle.merkle_wire.specs.Gaps.{owned_gap}
use Rattle.merkle_wire.specs.Outlines.{keys_told, pages_bytes}
use Rattle.merkle_wire.specs.Steps.{digests_beside}
use Rattle.merkle_wire.proofs.Exchanges.{key_tells}
use Rattle.merkle_wire.proofs.Fronts.{refused_for, refused_unread}
use Rattle.merkle_wire.proofs.WrittenKeys.{told_as_keys}
use Rattle.merkle_wire.proofs.LeftToAsk.{none_left, some_left, some_mapped}
use Rattle.merkle_wire.proofs.OutlinesRead.{three_read}
use Rattle.merkle_wire.proofs.Unfit.{no_keys, no_page-empty, no_page-keys, no_page-outside, no_page-pages}
use Rattle.merkle_wire.proofs.coming.read_page.Given.{Over}
use Rattle.merkle_wire.proofs.coming.read_page.Goals as goal
use Rattle.merkle_bytes.specs.Reading.{BeginsWithNo}
use Rattle.std.specs.List.{AllByRecursion}

-- bytes tell keys
keys_tell : (g : Over) (x y : g.row.K.Denot) → g.K.Encode.encoding x ≡ g.K.Encode.encoding y → Same g.K.Ord.cmp x y
keys_tell g = key_tells g.K.Ord.cmp g.K.Encode.encoding g.K.PartialEq.eq g.met.K.Ord.matches_eq g.met.K.Decode.told

pub returns-clause-read : goal.returns-clause-read
returns-clause-read g c =
    let written = keys_told g.K.Encode.encoding c.args.run.now in
    let came = c.in_ok-below in
    three_read c.in_ok-digest.digest (written (map (λ b. b.1.key) came.below.items))
    (pages_bytes (digests_beside came.below.items came.last)) c.args.reader.now.left.now c.array.new.self.left.now c.decode_run.new.reader.left.now c.read_pages.new.reader.left.now
    c.in_ok-digest.ensures.read
    (c.in_ok-keys.ensures.read ∙ ap (λ t. t ++ c.decode_run.new.reader.left.now)
    (told_as_keys g.K.Encode.encoding c.args.run.now c.in_ok-keys.keys.items ∙ ap written (sym c.in_ok-below.ensures.keys)))
    c.in_ok-below.ensures.read

pub returns-clause-some : goal.returns-clause-some
returns-clause-some g c =
    subst (λ ks. ks ≢ []) (sym c.in_ok-below.ensures.keys) (some_mapped (λ w. w.key) c.in_ok-keys.keys.items (some_left c.in_ok-keys.keys (sym c.is_empty.ensures ∙ c.if-is_empty.false)))

pub returns-clause-lie : goal.returns-clause-lie
returns-clause-lie g c =
    subst (AscendIn g.K.Ord.cmp (owned_gap c.args.gap.now)) (sym c.in_ok-below.ensures.keys) (rw c.deref.ensures.value at (c.keys_lie_in.ensures.inside c.if-not-keys_lie_in.false))

pub returns-in_err-keys-clause-refused : goal.returns-in_err-keys-clause-refused
returns-in_err-keys-clause-refused g c =
    let p = err_from_is_err_and c.from_residual-in_err-keys.result c.from_residual-in_err-keys.ensures.1 in
    rw (p.1, p.2) (refused_unread _ c.in_err-keys.field-0.0 (λ malformed.
    no_page-keys g.K.Ord.cmp g.met.K.Ord.total g.K.Encode.encoding (keys_tell g) g.K.Decode.is_value c.args.run.now c.args.gap.now c.args.reader.now.left.now
    c.in_ok-digest.digest c.array.new.self.left.now c.in_ok-digest.ensures.read c.in_ok-digest.ensures.len
    (no_keys g.K.Encode.encoding g.K.Decode.is_value c.args.run.now c.array.new.self.left.now (c.in_err-keys.ensures.malformed malformed))))

pub returns-then-is_empty-clause-refused : goal.returns-then-is_empty-clause-refused
returns-then-is_empty-clause-refused g c =
    let keys = map (λ w. w.key) c.in_ok-keys.keys.items in
    let behind = c.decode_run.new.reader.left.now in
    no_page-empty g.K.Ord.cmp g.met.K.Ord.total g.K.Encode.encoding (keys_tell g) g.K.Decode.is_value c.args.run.now c.args.gap.now c.args.reader.now.left.now
    c.in_ok-digest.digest c.array.new.self.left.now c.in_ok-digest.ensures.read c.in_ok-digest.ensures.len
    keys behind (c.in_ok-keys.ensures.read ∙ ap (λ t. t ++ behind) (told_as_keys g.K.Encode.encoding c.args.run.now c.in_ok-keys.keys.items))
    (ap (map (λ w. w.key)) (none_left c.in_ok-keys.keys (sym c.is_empty.ensures ∙ c.if-is_empty.true)))

pub returns-then-not-keys_lie_in-clause-refused : goal.returns-then-not-keys_lie_in-clause-refused
returns-then-not-keys_lie_in-clause-refused g c =
    let keys = map (λ w. w.key) c.in_ok-keys.keys.items in
    let behind = c.decode_run.new.reader.left.now in
    no_page-outside g.K.Ord.cmp g.met.K.Ord.total g.K.Encode.encoding (keys_tell g) g.K.Decode.is_value c.args.run.now c.args.gap.now c.args.reader.now.left.now
    c.in_ok-digest.digest c.array.new.self.left.now c.in_ok-digest.ensures.read c.in_ok-digest.ensures.len
    keys behind (c.in_ok-keys.ensures.read ∙ ap (λ t. t ++ behind) (told_as_keys g.K.Encode.encoding c.args.run.now c.in_ok-keys.keys.items))
    (rw c.deref.ensures.value at (c.keys_lie_in.ensures.outside c.if-not-keys_lie_in.true))

pub returns-in_err-below-clause-refused : goal.returns-in_err-below-clause-refused
returns-in_err-below-clause-refused g c =
    let p = err_from_is_err_and c.from_residual-in_err-below.result c.from_residual-in_err-below.ensures.1 in
    let keys = map (λ w. w.key) c.in_ok-keys.keys.items in
    let behind = c.decode_run.new.reader.left.now in
    rw (p.1, p.2) (refused_for _ _ c.in_err-below.field-0.0 (λ none.
    no_page-pages g.K.Ord.cmp g.met.K.Ord.total g.K.Encode.encoding (keys_tell g) g.K.Decode.is_value c.args.run.now c.args.gap.now c.args.reader.now.left.now
    c.in_ok-digest.digest c.array.new.self.left.now c.in_ok-digest.ensures.read c.in_ok-digest.ensures.len
    keys behind (c.in_ok-keys.ensures.read ∙ ap (λ t. t ++ behind) (told_as_keys g.K.Encode.encoding c.args.run.now c.in_ok-keys.keys.items))
    (subst (λ n. BeginsWithNo pages_bytes (λ pages. (length pages ≡ (n + 1)) × AllByRecursion IsPageDigest pages) behind)
    (sym (length-map c.in_ok-keys.keys.items (λ w. w.key))) none)) c.in_err-below.ensures.refused)
