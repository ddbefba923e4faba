use Rattle.std.proofs.Common.{◌+◌, [], ◌∷◌, drop, add-one, sym, ◌∙◌, ap, subst, arith}
use Rattle.key_order.specs.Map.{IsMap, rows_in}
use Rattle.key_order.specs.Interval.{IsApart}
use Rattle.merkle_replica.specs.Answers.{spans_of}
use Rattle.merkle_replica.proofs.Seeks.{map_drop}
use Rattle.merkle_replica.proofs.RangesOfKeys.{spans_drop}
use Rattle.merkle_replica.proofs.RowsInRanges.{Left, still, passes, apart_next, left_all, left_none}
use Rattle.merkle_replica.proofs.rows_within.first_within.Goals as goal

pub returns-then-found-clause-gives : goal.returns-then-found-clause-gives
returns-then-found-clause-gives g c =
    let cmp = g.K.Ord.cmp in
    let rs = c.args.ranges.now in
    let ss = spans_of rs in
    let rows = c.args.rows.now in
    still cmp g.met.K.Ord.total ss rows [] (drop c.finding.at ss)
    (drop c.seek-next.result.0 ss) c.finding.i c.index-rows-i.result c.requires.ascending c.finding-test.true c.index-rows-i.is c.finding.invariant.left
    c.seek-next.ensures.place (sym c.seek-next.ensures.found ∙ c.if-found.true)
    ∙ ap (λ t. c.index-rows-i.result ∷ t)
    (ap (rows_in cmp (drop c.seek-next.result.0 ss)) (ap (λ n. drop n rows) (sym (add-one c.finding.i)) ∙ sym c.split_at.ensures.back)
    ∙ ap (λ t. rows_in cmp t c.split_at.result.1.now) (sym (spans_drop rs c.seek-next.result.0) ∙ ap spans_of (sym c.split_at-then-found.ensures.back)))

pub returns-then-found-clause-ascending : goal.returns-then-found-clause-ascending
returns-then-found-clause-ascending g c = subst (IsMap g.K.Ord.cmp) (sym c.split_at.ensures.back) (map_drop g.K.Ord.cmp g.met.K.Ord.total c.args.rows.now (c.finding.i + 1) c.requires.ascending)

pub returns-then-found-clause-apart : goal.returns-then-found-clause-apart
returns-then-found-clause-apart g c =
    let ss = spans_of c.args.ranges.now in
    subst (λ t. IsApart g.K.Ord.cmp (spans_of t)) (sym c.split_at-then-found.ensures.back)
    (subst (IsApart g.K.Ord.cmp) (sym (spans_drop c.args.ranges.now c.seek-next.result.0))
    (apart_next g.K.Ord.cmp g.met.K.Ord.total ss c.args.rows.now [] (drop c.finding.at ss)
    (drop c.seek-next.result.0 ss) c.finding.i c.index-rows-i.result c.requires.ascending c.finding-test.true c.index-rows-i.is c.finding.invariant.left c.seek-next.ensures.place))

pub finding-preserved : goal.finding-preserved
finding-preserved g c =
    let ss = spans_of c.args.ranges.now in
    record {
      inside = c.seek-next.ensures.bound;
      left = subst (Left g.K.Ord.cmp g.met.K.Ord.total ss c.args.rows.now [] (drop c.seek-next.result.0 ss)) (sym (add-one c.finding.i))
          (passes g.K.Ord.cmp g.met.K.Ord.total ss c.args.rows.now [] (drop c.finding.at ss)
          (drop c.seek-next.result.0 ss) c.finding.i c.index-rows-i.result c.requires.ascending c.finding-test.true c.index-rows-i.is c.finding.invariant.left
          c.seek-next.ensures.place (sym c.seek-next.ensures.found ∙ c.if-found.false));
    }

pub returns-clause-gives : goal.returns-clause-gives
returns-clause-gives g c = left_none g.K.Ord.cmp g.met.K.Ord.total (spans_of c.args.ranges.now) c.args.rows.now []
    (drop c.finding.at (spans_of c.args.ranges.now)) c.finding.i (omega arith) c.finding.invariant.left

pub finding-init : goal.finding-init
finding-init g c = record { inside = omega arith; left = left_all g.K.Ord.cmp g.met.K.Ord.total (spans_of c.args.ranges.now) c.args.rows.now c.requires.apart }
