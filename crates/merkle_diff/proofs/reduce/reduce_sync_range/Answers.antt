use Rattle.std.proofs.Common.{◌<◌, length, sym, ap, subst, arith}
use Rattle.std.proofs.lemmas.List.{length-map}
use Rattle.std.proofs.lemmas.Result.{IfOk-weaker, on_err_weaker}
use Rattle.key_order.specs.Interval.{IsApart}
use Rattle.merkle_diff.proofs.CutByMerge.{cut-by_merge}
use Rattle.merkle_diff.proofs.Cuts.{cut-out}
use Rattle.merkle_diff.proofs.MergeLaws.{merge-is_apart}
use Rattle.merkle_diff.proofs.OnePass.{merge-some}
use Rattle.merkle_diff.proofs.Ranges.{spans-ordered}
use Rattle.merkle_diff.specs.Cut.{IsExactCut}
use Rattle.merkle_diff.specs.DiffRange.{span, spans}
use Rattle.merkle_diff.proofs.reduce.reduce_sync_range.Goals as goal

pub cut_apart-requires-clause-good : goal.cut_apart-requires-clause-good
cut_apart-requires-clause-good g c =
    subst (λ xs. IsApart g.K.Ord.cmp (spans xs)) (sym c.deref.ensures.value)
    (merge-is_apart g.K.Ord.cmp g.met.K.Ord.total (spans c.args.good.items) (spans c.merged-apart.result.items) (spans-ordered c.args.good.items) c.merged-apart.ensures)

pub returns-clause-exact : goal.returns-clause-exact
returns-clause-exact g c =
    IfOk-weaker c.cut_apart.result _ _
    (λ found h. cut-by_merge g.K.Ord.cmp g.met.K.Ord.total (spans c.args.bad.items) (spans c.args.good.items) (spans c.merged-apart.result.items) (spans found.items)
    (spans-ordered c.args.bad.items) (spans-ordered c.args.good.items) c.merged-apart.ensures
    (subst (λ xs. IsExactCut g.K.Ord.cmp (spans c.args.bad.items) (spans xs) (spans found.items)) c.deref.ensures.value h))
    c.cut_apart.ensures.exact

pub returns-clause-laws : goal.returns-clause-laws
returns-clause-laws g c =
    IfOk-weaker c.cut_apart.result _ _
    (λ found h. cut-out g.K.Ord.cmp g.met.K.Ord.total (spans c.args.bad.items) (spans c.args.good.items) (spans found.items) (spans-ordered c.args.bad.items)
    (cut-by_merge g.K.Ord.cmp g.met.K.Ord.total (spans c.args.bad.items) (spans c.args.good.items) (spans c.merged-apart.result.items) (spans found.items)
    (spans-ordered c.args.bad.items) (spans-ordered c.args.good.items) c.merged-apart.ensures
    (subst (λ xs. IsExactCut g.K.Ord.cmp (spans c.args.bad.items) (spans xs) (spans found.items)) c.deref.ensures.value h)))
    c.cut_apart.ensures.exact

pub returns-clause-memory : goal.returns-clause-memory
returns-clause-memory g c =
    on_err_weaker c.cut_apart.result
    (λ h.
    let n : 0 < length (spans c.merged-apart.result.items) = omega (arith, h.1, length-map c.merged-apart.result.items span, ap length c.deref.ensures.value) in
    let m = merge-some g.K.Ord.cmp (spans c.args.good.items) (spans c.merged-apart.result.items) c.merged-apart.ensures n in
    (h.0, omega (arith, m, length-map c.args.good.items span)))
    c.cut_apart.ensures.memory
