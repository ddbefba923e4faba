use Rattle.std.proofs.Common.{sym, ◌∙◌, ap, subst}
use Rattle.std.proofs.lemmas.Result.{IfOk-weaker}
use Rattle.key_order.specs.Interval.{IsApart}
use Rattle.merkle_diff.specs.Cut.{IsExactCut}
use Rattle.merkle_diff.specs.DiffRange.{spans, span}
use Rattle.merkle_diff.proofs.FromWalk.{by-walk, none-by_walk}
use Rattle.merkle_diff.proofs.MergeLaws.{merge-is_apart}
use Rattle.merkle_diff.proofs.NoAnswer.{nothing-by_walk, heads-may_answer, on_err}
use Rattle.merkle_diff.proofs.Queues.{front-is}
use Rattle.merkle_diff.proofs.Ranges.{spans-ordered}
use Rattle.merkle_diff.proofs.difference.differences.Goals as goal

pub returns-in_default-clause-ok : goal.returns-in_default-clause-ok
returns-in_default-clause-ok g c =
    let ls = c.drain.ensures.0 in
    let ps = c.drain-in_default.ensures.0 in (
      ls,
      ps,
      c.drain.ensures.1,
      c.drain-in_default.ensures.1,
      none-by_walk g.K.Ord.cmp ls ps (spans c.new.result.items) (sym (front-is g.J.Iterator.next_gives c.args.peers ps c.drain-in_default.ensures.1) ∙ c.in_default.is) (ap spans c.new.ensures.items),
    )

pub returns-then-not-may_answer-clause-ok : goal.returns-then-not-may_answer-clause-ok
returns-then-not-may_answer-clause-ok g c =
    let ls = c.drain-then-not-may_answer.ensures.0 in
    let ps = c.drain-then-not-may_answer-2.ensures.0 in (
      ls,
      ps,
      c.drain-then-not-may_answer.ensures.1,
      c.drain-then-not-may_answer-2.ensures.1,
      nothing-by_walk g.K.Ord.cmp g.met.K.Ord.total ls ps c.args.locals.head c.in-Some.first (span c.range-outer.result) (spans c.new-then-not-may_answer.result.items) (λ r. r.ordered)
          (sym c.in-Some.is ∙ front-is g.J.Iterator.next_gives c.args.peers ps c.drain-then-not-may_answer-2.ensures.1)
          (front-is g.I.Iterator.next_gives c.args.locals ls c.drain-then-not-may_answer.ensures.1)
          c.range-outer.ensures (sym c.may_answer.ensures ∙ c.if-not-may_answer.true) (ap spans c.new-then-not-may_answer.ensures.items),
    )

pub cut_apart-requires-clause-bad : goal.cut_apart-requires-clause-bad
cut_apart-requires-clause-bad g c = merge-is_apart g.K.Ord.cmp g.met.K.Ord.total (spans c.in_ok-marks.marks.bad.items) (spans c.merged-bad.result.items)
    (spans-ordered c.in_ok-marks.marks.bad.items) c.merged-bad.ensures

pub cut_apart-requires-clause-good : goal.cut_apart-requires-clause-good
cut_apart-requires-clause-good g c =
    subst (λ rs. IsApart g.K.Ord.cmp (spans rs)) (sym c.deref.ensures.value)
    (merge-is_apart g.K.Ord.cmp g.met.K.Ord.total (spans c.in_ok-marks.marks.good.items) (spans c.merged-good.result.items) (spans-ordered c.in_ok-marks.marks.good.items) c.merged-good.ensures)

pub returns-clause-ok : goal.returns-clause-ok
returns-clause-ok g c =
    let ls = c.in_ok-marks.ensures.0 in
    let ps = c.in_ok-marks.ensures.1 in
    let bad = spans c.merged-bad.result.items in
    let good = spans c.merged-good.result.items in
    IfOk-weaker c.cut_apart.result _ _
    (λ found h. (
      ls,
      ps,
      c.in_ok-marks.ensures.2,
      c.in_ok-marks.ensures.3,
      by-walk g.K.Ord.cmp ls ps c.in-Some.first (span c.range-outer.result) (spans c.in_ok-marks.marks.bad.items) (spans c.in_ok-marks.marks.good.items) bad good (spans found.items)
          (sym c.in-Some.is ∙ front-is g.J.Iterator.next_gives c.args.peers ps c.in_ok-marks.ensures.3) c.range-outer.ensures c.in_ok-marks.ensures.4 c.merged-bad.ensures c.merged-good.ensures
          (subst (λ rs. IsExactCut g.K.Ord.cmp bad (spans rs) (spans found.items)) c.deref.ensures.value h),
    ))
    c.cut_apart.ensures.exact

pub returns-in_err-marks-clause-err : goal.returns-in_err-marks-clause-err
returns-in_err-marks-clause-err g c =
    on_err c.from_residual.result _
    (heads-may_answer g.K.Ord.cmp g.met.K.Ord.total c.args.locals.head c.args.peers.head c.in-Some.first
    (span c.range-outer.result) c.in-Some.is c.range-outer.ensures (sym c.may_answer.ensures ∙ c.if-not-may_answer.false))

pub returns-clause-err : goal.returns-clause-err
returns-clause-err g c =
    on_err c.cut_apart.result _ (heads-may_answer g.K.Ord.cmp g.met.K.Ord.total c.args.locals.head c.args.peers.head c.in-Some.first
    (span c.range-outer.result) c.in-Some.is c.range-outer.ensures (sym c.may_answer.ensures ∙ c.if-not-may_answer.false))
