-- The ranges and the last line, and then how many rows were joined.
use Rattle.std.proofs.Common.{◌≡◌, ℕ, List, [], ◌++◌, ap, ◌∙◌, subst}
use Rattle.std.specs.List.{flat_map}
use Rattle.key_order.specs.Text.{Text}
use Rattle.merkle_replica.specs.Answers.{spans_of}
use Rattle.mst_pair.specs.Devices.{WritesBytes, WritesPart}
use Rattle.mst_pair.specs.Replies.{range_text, ranges_text, joined_text, end_line}
use Rattle.mst_pair.proofs.Devices.{writes_err, writes_flushed, part_less, passed_part, passed_more}
use Rattle.mst_pair.proofs.Replies.{lines_as}
use Rattle.mst_pair.proofs.reply.write_pull.Goals as goal

-- the lines of the ranges
abbrev lines : List (Text × Text) → List ℕ
lines ranges = flat_map (λ r. range_text (record { first = r.0; last = r.1 })) ranges ++ end_line

-- nothing was pending, and these are all the ranges
whole : (pending : List ℕ) (read ranges : List (Text × Text)) (joined : List ℕ) → pending ≡ [] → read ≡ ranges → pending ++ (lines read ++ joined) ≡ ranges_text (spans_of ranges) ++ joined
whole pending read ranges joined none same =
    ap (λ t. t ++ (lines read ++ joined)) none
    ∙ (ap (λ rs. lines rs ++ joined) same ∙ ap (λ t. (t ++ end_line) ++ joined) (lines_as range_text (λ (r : Text × Text). record { first = r.0; last = r.1 }) ranges))

pub returns-in_err-add_list-clause-bytes : goal.returns-in_err-add_list-clause-bytes
returns-in_err-add_list-clause-bytes g c =
    let joined = joined_text c.args.pulled.now.joined in
    let all = whole c.new-pending.result c.deref.result.now c.args.pulled.now.ranges.items joined c.new-pending.ensures c.deref.ensures.value in
    writes_err _ _ _ _ c.from_residual.ensures.0 (subst (WritesPart _ _) all (part_less _ _ c.new-pending.result (lines c.deref.result.now) joined c.in_err-add_list.ensures.bytes))

pub returns-in_err-write_line-clause-bytes : goal.returns-in_err-write_line-clause-bytes
returns-in_err-write_line-clause-bytes g c =
    let joined = joined_text c.args.pulled.now.joined in
    let all = whole c.new-pending.result c.deref.result.now c.args.pulled.now.ranges.items joined c.new-pending.ensures c.deref.ensures.value in
    writes_err _ _ _ _ c.from_residual-in_err-write_line.ensures.0
    (subst (WritesPart _ _) all (passed_part _ _ _ c.new-pending.result _ (lines c.deref.result.now) joined c.in_ok-add_list.ensures.bytes c.in_err-write_line.ensures.bytes))

pub returns-clause-bytes : goal.returns-clause-bytes
returns-clause-bytes g c =
    let joined = joined_text c.args.pulled.now.joined in
    let all = whole c.new-pending.result c.deref.result.now c.args.pulled.now.ranges.items joined c.new-pending.ensures c.deref.ensures.value in
    subst (WritesBytes _ _ _) all (writes_flushed _ _ _ _ c.new-pending.result _ (lines c.deref.result.now ++ joined)
    (passed_more _ _ _ c.new-pending.result _ _ (lines c.deref.result.now) joined c.in_ok-add_list.ensures.bytes c.in_ok-write_line.ensures.bytes) c.flush.ensures.bytes)
