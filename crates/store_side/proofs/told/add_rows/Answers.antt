use Rattle.std.proofs.Common.{◌≡◌, ◌-◌, [], length, ap, subst, ◌∙◌}
use Rattle.merkle_bytes.specs.Runs.{bound_key}
use Rattle.merkle_wire.specs.Parts.{HasTold}
use Rattle.store_file.specs.WireRegisters.{register_encoding}
use Rattle.store_side.specs.Answered.{text_encoding}
use Rattle.store_side.proofs.Answering.{begin_rows}
use Rattle.store_side.proofs.told.add_rows.Goals as goal

pub returns-clause-part : goal.returns-clause-part
returns-clause-part g c clean rows was =
    let gap = c.args.gap.now in
    let most = c.args.most_bytes in
    let (found, more, took, first, full) = c.in_ok-whole.ensures.rows clean rows was in
    let (others, begin, ends, some) = begin_rows rows gap found c.in_ok-whole.whole first in
    let is = c.in_ok-begin.ensures in
    let begun : c.in_ok-begin.field-0 ≡ record { room = most - length c.args.bytes.now.items; count = 0; last = bound_key text_encoding [] gap.after; bytes = [] } =
    λ i. record { room = (is.room ∙ ap (λ bytes. most - length bytes) c.deref.ensures.value) i; count = is.count i; last = is.last i; bytes = is.bytes i } in
    c.in_ok-end.ensures most gap found rows others more (subst (λ part. HasTold text_encoding register_encoding part c.visit_rows.new.visitor.part found more) begun took) begin ends
    (λ less. (some less, full less))
