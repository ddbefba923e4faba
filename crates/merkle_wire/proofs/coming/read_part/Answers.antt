use Rattle.std.proofs.Common.{◌∷◌, ◌++◌, [], cond, true, false, refl, ap, sym, subst, ◌∙◌, append-nil, inl}
use Rattle.std.proofs.lemmas.Result.{err_from_is_err_and}
use Rattle.merkle_bytes.specs.Runs.{bound_key, row_behind, row_key, run_bytes}
use Rattle.merkle_wire.proofs.Exchanges.{key_tells}
use Rattle.merkle_wire.proofs.Fronts.{refused_for, refused_unread}
use Rattle.merkle_wire.proofs.PartsRead.{part_read}
use Rattle.merkle_wire.proofs.Unfit.{no_part, no_part-empty, no_part-flag}
use Rattle.merkle_wire.proofs.coming.read_part.Goals as goal
use Rattle.merkle_wire.specs.Fit.{NoRows}

pub returns-then-branch-clause-read : goal.returns-then-branch-clause-read
returns-then-branch-clause-read g c =
    let last = bound_key g.K.Encode.encoding [] in
    part_read g.K.Encode.encoding g.V.Encode.encoding (last c.args.gap.now.after) c.in_ok-run.run' c.in_ok-rows.rows.items c.in_ok-flag.field-0 true
    c.args.reader.now.left.now c.read_rows.new.reader.left.now c.flag.new.self.left.now
    c.in_ok-rows.ensures.read c.in_ok-flag.ensures.read (c.in_ok-run.ensures ∙ ap last c.as_ref.ensures.value) c.if-branch.true

pub returns-then-branch-clause-behind : goal.returns-then-branch-clause-behind
returns-then-branch-clause-behind g c = ([], inl (refl, refl), sym (append-nil c.args.left.now.items))

pub returns-clause-read : goal.returns-clause-read
returns-clause-read g c =
    let last = bound_key g.K.Encode.encoding [] in
    part_read g.K.Encode.encoding g.V.Encode.encoding (last c.args.gap.now.after) c.in_ok-run.run' c.in_ok-rows.rows.items c.in_ok-flag.field-0 false
    c.args.reader.now.left.now c.read_rows.new.reader.left.now c.flag.new.self.left.now
    c.in_ok-rows.ensures.read c.in_ok-flag.ensures.read (c.in_ok-run.ensures ∙ ap last c.as_ref.ensures.value) c.if-branch.false

pub returns-clause-behind : goal.returns-clause-behind
returns-clause-behind g c = rw c.deref.ensures.value at c.in_ok-add_behind.ensures.added

pub returns-in_err-rows-clause-refused : goal.returns-in_err-rows-clause-refused
returns-in_err-rows-clause-refused g c =
    let p = err_from_is_err_and c.from_residual-in_err-rows.result c.from_residual-in_err-rows.ensures.1 in
    let run = c.in_ok-run.ensures ∙ ap (bound_key g.K.Encode.encoding []) c.as_ref.ensures.value in
    rw (p.1, p.2) (refused_for _ _ c.in_err-rows.field-0.0 (λ none.
    no_part g.K.Ord.cmp g.met.K.Ord.total g.V.PartialEq.eq g.K.Encode.encoding g.V.Encode.encoding
    (key_tells g.K.Ord.cmp g.K.Encode.encoding g.K.PartialEq.eq g.met.K.Ord.matches_eq g.met.K.Decode.told) g.met.V.Decode.told g.K.Decode.is_value
    g.V.Decode.is_value c.args.gap.now c.args.reader.now.left.now
    (subst (λ last. NoRows g.K.Ord.cmp g.K.Decode.is_value g.V.Decode.is_value g.K.Encode.encoding g.V.Encode.encoding last c.args.gap.now c.args.reader.now.left.now) run
    none)) c.in_err-rows.ensures.refused)

pub returns-in_err-flag-clause-refused : goal.returns-in_err-flag-clause-refused
returns-in_err-flag-clause-refused g c =
    let p = err_from_is_err_and c.from_residual-in_err-flag.result c.from_residual-in_err-flag.ensures.1 in
    let run = c.in_ok-run.ensures ∙ ap (bound_key g.K.Encode.encoding []) c.as_ref.ensures.value in
    let behind = c.read_rows.new.reader.left.now in
    let rows = c.in_ok-rows.rows.items in
    rw (p.1, p.2) (refused_unread _ c.in_err-flag.field-0.0 (λ malformed.
    no_part-flag g.K.Ord.cmp g.met.K.Ord.total g.V.PartialEq.eq g.K.Encode.encoding g.V.Encode.encoding
    (key_tells g.K.Ord.cmp g.K.Encode.encoding g.K.PartialEq.eq g.met.K.Ord.matches_eq g.met.K.Decode.told) g.met.V.Decode.told g.K.Decode.is_value
    g.V.Decode.is_value c.args.gap.now c.args.reader.now.left.now rows behind
    (c.in_ok-rows.ensures.read ∙ ap (λ last. run_bytes (row_behind g.K.Encode.encoding g.V.Encode.encoding) (row_key g.K.Encode.encoding) last rows ++ behind) run)
    (c.in_err-flag.ensures.malformed malformed)))

pub returns-in_err-add_behind-clause-refused : goal.returns-in_err-add_behind-clause-refused
returns-in_err-add_behind-clause-refused g c =
    let p = err_from_is_err_and c.from_residual-in_err-add_behind.result c.from_residual-in_err-add_behind.ensures.1 in
    let run = c.in_ok-run.ensures ∙ ap (bound_key g.K.Encode.encoding []) c.as_ref.ensures.value in
    let behind = c.read_rows.new.reader.left.now in
    let rows = c.in_ok-rows.rows.items in
    rw (p.1, p.2) (refused_for _ _ c.in_err-add_behind.field-0.0 (λ none.
    no_part-empty g.K.Ord.cmp g.met.K.Ord.total g.V.PartialEq.eq g.K.Encode.encoding g.V.Encode.encoding
    (key_tells g.K.Ord.cmp g.K.Encode.encoding g.K.PartialEq.eq g.met.K.Ord.matches_eq g.met.K.Decode.told) g.met.V.Decode.told g.K.Decode.is_value
    g.V.Decode.is_value c.args.gap.now c.args.reader.now.left.now rows behind
    (c.in_ok-rows.ensures.read ∙ ap (λ last. run_bytes (row_behind g.K.Encode.encoding g.V.Encode.encoding) (row_key g.K.Encode.encoding) last rows ++ behind) run)
    c.flag.new.self.left.now (c.in_ok-flag.ensures.read ∙ ap (λ flag. cond flag 1 0 ∷ c.flag.new.self.left.now) c.if-branch.false) (rw c.deref.ensures.value at none))
    c.in_err-add_behind.ensures.refused)
