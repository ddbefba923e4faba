use Rattle.std.proofs.Common.{◌++◌, [], get_or, ap, subst, ◌∙◌, arith}
use Rattle.std.proofs.lemmas.Result.{err_from_is_err_and}
use Rattle.std.specs.List.{flat_map}
use Rattle.merkle_bytes.specs.Runs.{bound_key, run_bytes, row_behind, row_key}
use Rattle.merkle_wire.specs.Outlines.{keys_told, keys_among, pages_bytes, nodes_bytes}
use Rattle.merkle_wire.specs.Steps.{nodes_read, below_keys, digests_beside}
use Rattle.merkle_wire.proofs.Exchanges.{key_tells}
use Rattle.merkle_wire.proofs.Fronts.{refused_for, refused_unread}
use Rattle.merkle_wire.proofs.OutlinesRead.{beside_all, kind_and_rest, kind_read}
use Rattle.merkle_wire.proofs.Unfit.{no_outline, no_outline-none}
use Rattle.merkle_wire.proofs.coming.read_outline.Goals as goal
use Rattle.merkle_bytes.specs.Reading.{BeginsWithNo}
use Rattle.merkle_wire.specs.Fit.{AreNodesIn, NoPage, NoRows}
use Rattle.merkle_wire.specs.Gaps.{owned_gap}

pub returns-then-kind-eq0-clause-read : goal.returns-then-kind-eq0-clause-read
returns-then-kind-eq0-clause-read g c =
    let last = bound_key g.K.Encode.encoding [] in
    kind_and_rest c.in_ok-kind.field-0 0 (λ run. run_bytes (row_behind g.K.Encode.encoding g.V.Encode.encoding) (row_key g.K.Encode.encoding) run c.in_ok-rows.rows.items)
    (last c.args.gap.now.after) c.in_ok-run.run'
    c.args.reader.now.left.now c.array.new.self.left.now c.read_rows.new.reader.left.now c.in_ok-kind.ensures.read c.in_ok-kind.ensures.len c.if-kind-eq0.true
    c.in_ok-rows.ensures.read (c.in_ok-run.ensures ∙ ap last c.as_ref.ensures.value)

pub returns-then-kind-eq1-clause-read : goal.returns-then-kind-eq1-clause-read
returns-then-kind-eq1-clause-read g c =
    let last = bound_key g.K.Encode.encoding [] in
    let nodes = nodes_read c.in_ok-nodes.nodes.items in
    kind_and_rest c.in_ok-kind.field-0 1 (λ run. keys_told g.K.Encode.encoding run (keys_among nodes) ++ flat_map (λ n. n.1) nodes) (last c.args.gap.now.after) c.in_ok-run.run'
    c.args.reader.now.left.now c.array.new.self.left.now c.read_nodes.new.reader.left.now c.in_ok-kind.ensures.read c.in_ok-kind.ensures.len c.if-kind-eq1.true
    c.in_ok-nodes.ensures.read (c.in_ok-run.ensures ∙ ap last c.as_ref.ensures.value)

pub returns-then-with_pages-clause-read : goal.returns-then-with_pages-clause-read
returns-then-with_pages-clause-read g c =
    let last = bound_key g.K.Encode.encoding [] in
    let page = c.in_ok-page.page in
    kind_and_rest c.in_ok-kind.field-0 2 (λ run. page.digest ++ (keys_told g.K.Encode.encoding run (below_keys page.below.items) ++ pages_bytes (digests_beside page.below.items page.last)))
    (last c.args.gap.now.after) c.in_ok-run.run'
    c.args.reader.now.left.now c.array.new.self.left.now c.read_page.new.reader.left.now c.in_ok-kind.ensures.read c.in_ok-kind.ensures.len c.if-kind-eq2.true
    c.in_ok-page.ensures.read (c.in_ok-run.ensures ∙ ap last c.as_ref.ensures.value)

pub returns-then-with_pages-clause-lies : goal.returns-then-with_pages-clause-lies
returns-then-with_pages-clause-lies g c =
    let page = c.in_ok-page.page in
    let came = c.in_ok-page.ensures in
    (came.some, came.lie, came.digest, came.digests, beside_all page.below.items page.last)

pub returns-in_err-kind-clause-refused : goal.returns-in_err-kind-clause-refused
returns-in_err-kind-clause-refused g c =
    let p = err_from_is_err_and c.from_residual-in_err-kind.result c.from_residual-in_err-kind.ensures.1 in
    rw (p.1, p.2) (refused_unread _ c.in_err-kind.field-0.0 (λ malformed.
    no_outline-none g.K.Ord.cmp g.met.K.Ord.total g.V.PartialEq.eq g.K.Encode.encoding g.V.Encode.encoding
    (key_tells g.K.Ord.cmp g.K.Encode.encoding g.K.PartialEq.eq g.met.K.Ord.matches_eq g.met.K.Decode.told) g.met.V.Decode.told g.K.Decode.is_value g.V.Decode.is_value
    c.args.digest_bytes c.args.with_pages c.args.gap.now c.args.reader.now.left.now (c.in_err-kind.ensures.malformed malformed)))

pub returns-in_err-rows-clause-refused : goal.returns-in_err-rows-clause-refused
returns-in_err-rows-clause-refused g c =
    let p = err_from_is_err_and c.from_residual-in_err-rows.result c.from_residual-in_err-rows.ensures.1 in
    let kind = c.in_ok-kind in
    let last = bound_key g.K.Encode.encoding [] in
    rw (p.1, p.2) (refused_for _ _ c.in_err-rows.field-0.0 (λ none.
    no_outline g.K.Ord.cmp g.met.K.Ord.total g.V.PartialEq.eq g.K.Encode.encoding g.V.Encode.encoding
    (key_tells g.K.Ord.cmp g.K.Encode.encoding g.K.PartialEq.eq g.met.K.Ord.matches_eq g.met.K.Decode.told) g.met.V.Decode.told g.K.Decode.is_value g.V.Decode.is_value
    c.args.digest_bytes c.args.with_pages c.args.gap.now c.args.reader.now.left.now (get_or kind.field-0 0 0) c.array.new.self.left.now
    (kind_read kind.field-0 c.args.reader.now.left.now c.array.new.self.left.now kind.ensures.read kind.ensures.len)
    (λ zero. subst (λ run. NoRows g.K.Ord.cmp g.K.Decode.is_value g.V.Decode.is_value g.K.Encode.encoding g.V.Encode.encoding run c.args.gap.now
    c.array.new.self.left.now) (c.in_ok-run.ensures ∙ ap last c.as_ref.ensures.value) none)
    (λ one. absurd (omega (arith, c.if-kind-eq0.true, one))) (λ two with. absurd (omega (arith, c.if-kind-eq0.true, two)))) c.in_err-rows.ensures.refused)

pub returns-in_err-nodes-clause-refused : goal.returns-in_err-nodes-clause-refused
returns-in_err-nodes-clause-refused g c =
    let p = err_from_is_err_and c.from_residual-in_err-nodes.result c.from_residual-in_err-nodes.ensures.1 in
    let kind = c.in_ok-kind in
    let last = bound_key g.K.Encode.encoding [] in
    rw (p.1, p.2) (refused_for _ _ c.in_err-nodes.field-0.0 (λ none.
    no_outline g.K.Ord.cmp g.met.K.Ord.total g.V.PartialEq.eq g.K.Encode.encoding g.V.Encode.encoding
    (key_tells g.K.Ord.cmp g.K.Encode.encoding g.K.PartialEq.eq g.met.K.Ord.matches_eq g.met.K.Decode.told) g.met.V.Decode.told g.K.Decode.is_value g.V.Decode.is_value
    c.args.digest_bytes c.args.with_pages c.args.gap.now c.args.reader.now.left.now (get_or kind.field-0 0 0) c.array.new.self.left.now
    (kind_read kind.field-0 c.args.reader.now.left.now c.array.new.self.left.now kind.ensures.read kind.ensures.len)
    (λ zero. absurd (omega (arith, c.if-kind-eq1.true, zero)))
    (λ one. subst (λ run. BeginsWithNo (nodes_bytes g.K.Encode.encoding run) (AreNodesIn g.K.Ord.cmp g.K.Decode.is_value c.args.digest_bytes (owned_gap c.args.gap.now)) c.array.new.self.left.now)
    (c.in_ok-run.ensures ∙ ap last c.as_ref.ensures.value) none)
    (λ two with. absurd (omega (arith, c.if-kind-eq1.true, two)))) c.in_err-nodes.ensures.refused)

pub returns-in_err-page-clause-refused : goal.returns-in_err-page-clause-refused
returns-in_err-page-clause-refused g c =
    let p = err_from_is_err_and c.from_residual-in_err-page.result c.from_residual-in_err-page.ensures.1 in
    let kind = c.in_ok-kind in
    let last = bound_key g.K.Encode.encoding [] in
    rw (p.1, p.2) (refused_for _ _ c.in_err-page.field-0.0 (λ none.
    no_outline g.K.Ord.cmp g.met.K.Ord.total g.V.PartialEq.eq g.K.Encode.encoding g.V.Encode.encoding
    (key_tells g.K.Ord.cmp g.K.Encode.encoding g.K.PartialEq.eq g.met.K.Ord.matches_eq g.met.K.Decode.told) g.met.V.Decode.told g.K.Decode.is_value g.V.Decode.is_value
    c.args.digest_bytes c.args.with_pages c.args.gap.now c.args.reader.now.left.now (get_or kind.field-0 0 0) c.array.new.self.left.now
    (kind_read kind.field-0 c.args.reader.now.left.now c.array.new.self.left.now kind.ensures.read kind.ensures.len)
    (λ zero. absurd (omega (arith, c.if-kind-eq2.true, zero))) (λ one. absurd (omega (arith, c.if-kind-eq2.true, one)))
    (λ two with. subst (λ run. NoPage g.K.Ord.cmp g.K.Decode.is_value g.K.Encode.encoding run c.args.gap.now c.array.new.self.left.now)
    (c.in_ok-run.ensures ∙ ap last c.as_ref.ensures.value) none)) c.in_err-page.ensures.refused)
