use Rattle.std.proofs.Common.{sym, subst, ◌∙◌, take, drop}
use Rattle.std.specs.List.{AllByRecursion}
use Rattle.key_order.specs.Map.{IsMap}
use Rattle.key_order.specs.Order.{Upto, Below}
use Rattle.merkle_diff.specs.Entry.{span_of}
use Rattle.merkle_diff.specs.PageRange.{entry}
use Rattle.merkle_wire.proofs.InGaps.{map_behind}
use Rattle.merkle_audit.proofs.RowsBySpan.{between_bounds}
use Rattle.merkle_audit.proofs.pages.rows_within.Goals as goal

pub count_upto-count-requires : goal.count_upto-count-requires
count_upto-count-requires g c =
    subst (IsMap g.K.Ord.cmp) (sym c.split_at.ensures.back) (map_behind g.K.Ord.cmp g.met.K.Ord.total c.args.rows.now c.count_below-first.result c.requires)

pub returns : goal.returns
returns g c =
    let cmp = g.K.Ord.cmp in
    let rows = c.args.rows.now in
    let behind = c.split_at.result.1.now in
    let low = subst (λ k. AllByRecursion (λ r. Below cmp r.0 k) (take c.count_below-first.result rows)) c.start.ensures c.count_below-first.ensures.below in
    let from = subst (λ k. AllByRecursion (λ r. Upto cmp k r.0) (drop c.count_below-first.result rows)) c.start.ensures c.count_below-first.ensures.behind in
    let upto = subst (λ k. AllByRecursion (λ r. Upto cmp r.0 k) (take c.count_upto-count.result behind)) c.end.ensures c.count_upto-count.ensures.upto in
    let high = subst (λ k. AllByRecursion (λ r. Below cmp k r.0) (drop c.count_upto-count.result behind)) c.end.ensures c.count_upto-count.ensures.above in
    c.split_at-2.ensures.front ∙ between_bounds cmp g.met.K.Ord.total (span_of (entry c.args.range.now)) rows behind c.count_below-first.result c.count_upto-count.result
    c.split_at.ensures.back low from upto high
