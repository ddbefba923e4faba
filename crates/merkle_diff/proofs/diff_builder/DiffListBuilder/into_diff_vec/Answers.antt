use Rattle.std.proofs.Common.{◌<◌, length, sym, ap, subst, arith}
use Rattle.std.proofs.lemmas.List.{length-map}
use Rattle.std.proofs.lemmas.Result.{IfOk-weaker, on_err_weaker}
use Rattle.key_order.specs.Interval.{IsApart}
use Rattle.merkle_diff.specs.Cut.{IsExactCut}
use Rattle.merkle_diff.specs.DiffRange.{span, spans}
use Rattle.merkle_diff.proofs.Cuts.{cut-out}
use Rattle.merkle_diff.proofs.OnePass.{merge-some}
use Rattle.merkle_diff.proofs.Ranges.{spans-ordered}
use Rattle.merkle_diff.proofs.diff_builder.DiffListBuilder.into_diff_vec.Goals as goal

pub cut_apart-requires-clause-bad : goal.cut_apart-requires-clause-bad
cut_apart-requires-clause-bad g c = c.in_ok-bad.ensures.apart

pub cut_apart-requires-clause-good : goal.cut_apart-requires-clause-good
cut_apart-requires-clause-good g c =
    subst (λ xs. IsApart g.K.Ord.cmp (spans xs)) (sym c.deref.ensures.value) c.in_ok-good.ensures.apart

pub returns-clause-cut : goal.returns-clause-cut
returns-clause-cut g c =
    IfOk-weaker c.cut_apart.result _ _
    (λ found h.
    let bad = spans c.in_ok-bad.bad.items in
    let good = spans c.in_ok-good.good.items in
    let e = subst (λ xs. IsExactCut g.K.Ord.cmp bad (spans xs) (spans found.items)) c.deref.ensures.value h in
    record {
      bad = bad;
      good = good;
      bad_merged = c.in_ok-bad.ensures.merged;
      good_merged = c.in_ok-good.ensures.merged;
      exact = e;
      laws = cut-out g.K.Ord.cmp g.met.K.Ord.total bad good (spans found.items) (spans-ordered c.in_ok-bad.bad.items) e;
    })
    c.cut_apart.ensures.exact

pub returns-clause-memory : goal.returns-clause-memory
returns-clause-memory g c =
    on_err_weaker c.cut_apart.result
    (λ h.
    let b : 0 < length (spans c.in_ok-bad.bad.items) = omega (arith, h.0, length-map c.in_ok-bad.bad.items span) in
    let m : 0 < length (spans c.in_ok-good.good.items) = omega (arith, h.1, length-map c.in_ok-good.good.items span, ap length c.deref.ensures.value) in
    let some_bad = merge-some g.K.Ord.cmp c.args.self.inconsistent (spans c.in_ok-bad.bad.items) c.in_ok-bad.ensures.merged b in
    let some_good = merge-some g.K.Ord.cmp c.args.self.consistent (spans c.in_ok-good.good.items) c.in_ok-good.ensures.merged m in
    ((λ e. absurd (omega (arith, some_bad, ap length e))), (λ e. absurd (omega (arith, some_good, ap length e)))))
    c.cut_apart.ensures.memory
