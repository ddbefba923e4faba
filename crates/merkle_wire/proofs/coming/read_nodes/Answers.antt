use Rattle.std.proofs.Common.{◌++◌, map, sym, ap, subst, ◌∙◌, append_assoc, ◌≡◌, length}
use Rattle.std.proofs.lemmas.List.{length-map}
use Rattle.std.proofs.lemmas.Result.{err_from_is_err_and}
use Rattle.std.specs.List.{flat_map, AllByRecursion, concat}
use Rattle.merkle_wire.specs.Coming.{AscendIn}
use Rattle.merkle_wire.specs.Gaps.{owned_gap}
use Rattle.merkle_wire.specs.Outlines.{keys_among, keys_told}
use Rattle.merkle_wire.specs.Steps.{nodes_read}
use Rattle.merkle_wire.proofs.Exchanges.{key_tells}
use Rattle.merkle_wire.proofs.Fronts.{refused_for, refused_unread}
use Rattle.merkle_wire.proofs.WrittenKeys.{told_as_keys}
use Rattle.merkle_wire.proofs.Unfit.{no_keys, no_nodes, no_nodes-digests, no_nodes-outside}
use Rattle.merkle_wire.proofs.coming.read_nodes.Goals as goal
use Rattle.merkle_bytes.specs.Reading.{BeginsWithNo}

pub returns-clause-read : goal.returns-clause-read
returns-clause-read g c =
    let written = keys_told g.K.Encode.encoding c.args.run.now in
    let nodes = nodes_read c.in_ok-nodes.nodes.items in
    c.in_ok-keys.ensures.read ∙ ap (λ t. t ++ c.decode_run.new.reader.left.now) (told_as_keys g.K.Encode.encoding c.args.run.now c.in_ok-keys.keys.items ∙ ap written (sym c.in_ok-nodes.ensures.keys))
    ∙ ap (λ t. written (keys_among nodes) ++ t) c.in_ok-nodes.ensures.read ∙ sym (append_assoc (written (keys_among nodes)) (flat_map (λ n. n.1) nodes) c.read_digests.new.reader.left.now)

pub returns-clause-lie : goal.returns-clause-lie
returns-clause-lie g c =
    subst (AscendIn g.K.Ord.cmp (owned_gap c.args.gap.now)) (sym c.in_ok-nodes.ensures.keys) (rw c.deref.ensures.value at (c.keys_lie_in.ensures.inside c.if-not-keys_lie_in.false))

pub returns-in_err-keys-clause-refused : goal.returns-in_err-keys-clause-refused
returns-in_err-keys-clause-refused g c =
    let p = err_from_is_err_and c.from_residual.result c.from_residual.ensures.1 in
    rw (p.1, p.2) (refused_unread _ c.in_err-keys.field-0.0 (λ malformed.
    no_nodes g.K.Ord.cmp g.met.K.Ord.total g.K.Encode.encoding (key_tells g.K.Ord.cmp g.K.Encode.encoding g.K.PartialEq.eq g.met.K.Ord.matches_eq g.met.K.Decode.told)
    g.K.Decode.is_value c.args.digest_bytes c.args.run.now c.args.gap.now c.args.reader.now.left.now
    (no_keys g.K.Encode.encoding g.K.Decode.is_value c.args.run.now c.args.reader.now.left.now (c.in_err-keys.ensures.malformed malformed))))

pub returns-then-not-keys_lie_in-clause-refused : goal.returns-then-not-keys_lie_in-clause-refused
returns-then-not-keys_lie_in-clause-refused g c =
    let behind = c.decode_run.new.reader.left.now in
    no_nodes-outside g.K.Ord.cmp g.met.K.Ord.total g.K.Encode.encoding
    (key_tells g.K.Ord.cmp g.K.Encode.encoding g.K.PartialEq.eq g.met.K.Ord.matches_eq g.met.K.Decode.told) g.K.Decode.is_value c.args.digest_bytes c.args.run.now
    c.args.gap.now c.args.reader.now.left.now
    (map (λ w. w.key) c.in_ok-keys.keys.items) behind (c.in_ok-keys.ensures.read ∙ ap (λ t. t ++ behind) (told_as_keys g.K.Encode.encoding c.args.run.now c.in_ok-keys.keys.items))
    (rw c.deref.ensures.value at (c.keys_lie_in.ensures.outside c.if-not-keys_lie_in.true))

pub returns-in_err-nodes-clause-refused : goal.returns-in_err-nodes-clause-refused
returns-in_err-nodes-clause-refused g c =
    let p = err_from_is_err_and c.from_residual-in_err-nodes.result c.from_residual-in_err-nodes.ensures.1 in
    let behind = c.decode_run.new.reader.left.now in
    rw (p.1, p.2) (refused_for _ _ c.in_err-nodes.field-0.0 (λ none.
    no_nodes-digests g.K.Ord.cmp g.met.K.Ord.total g.K.Encode.encoding
    (key_tells g.K.Ord.cmp g.K.Encode.encoding g.K.PartialEq.eq g.met.K.Ord.matches_eq g.met.K.Decode.told) g.K.Decode.is_value c.args.digest_bytes c.args.run.now
    c.args.gap.now c.args.reader.now.left.now
    (map (λ w. w.key) c.in_ok-keys.keys.items) behind (c.in_ok-keys.ensures.read ∙ ap (λ t. t ++ behind) (told_as_keys g.K.Encode.encoding c.args.run.now c.in_ok-keys.keys.items))
    (subst (λ n. BeginsWithNo concat (λ digests. (length digests ≡ n) × AllByRecursion (λ d. length d ≡ c.args.digest_bytes) digests) behind)
    (sym (length-map c.in_ok-keys.keys.items (λ w. w.key))) none)) c.in_err-nodes.ensures.refused)
