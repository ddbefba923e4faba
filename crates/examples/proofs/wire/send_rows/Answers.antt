use Rattle.std.proofs.Common.{map, ap, ◌∙◌, subst}
use Rattle.std.specs.List.{AllByRecursion}
use Rattle.key_order.specs.Map.{rows_in}
use Rattle.key_order.specs.Text.{text_order}
use Rattle.merkle_bytes.specs.Encodings.{list_bytes}
use Rattle.merkle_diff.proofs.Snapshots.{drained}
use Rattle.merkle_replica.specs.Answers.{spans_of}
use Rattle.examples.specs.Wire.{name_row_bytes, HasWideNumber}
use Rattle.examples.proofs.wire.send_rows.Goals as goal

-- the rows that were collected are those in the ranges
pub returns-clause-sent : goal.returns-clause-sent
returns-clause-sent c =
    let ran = c.in_ok-rows.ensures.ran in
    let whole = ran.1.2 tt in
    let rows = drained (λ row. row.now) (λ rest. rest) c.in-Some.found ran.0 (whole.0, (ran.1.0, ran.1.1, whole.1)) in
    let collected = ap (map (λ row. row.now)) (c.deref-2.ensures.value ∙ ran.2.0) in
    let within = c.in-Some.ensures.rows ∙ ap (λ ranges. rows_in text_order (spans_of ranges) c.args.store.now.rows) c.deref.ensures.value in
    let all = collected ∙ rows ∙ within in (
      spans_of c.in_ok-ranges.ranges.items,
      c.in_ok-ranges.ensures.read,
      subst (AllByRecursion HasWideNumber) all c.in_ok-bytes.ensures.each,
      c.in_ok-bytes.ensures.bytes ∙ ap (list_bytes name_row_bytes) all,
    )
