use Rattle.std.proofs.Common.{drop, arith}
use Rattle.merkle_replica.specs.Answers.{spans_of}
use Rattle.merkle_replica.proofs.RowsInRanges.{counts_none, counts_more, counts_all}
use Rattle.merkle_replica.proofs.seek.count_within.Goals as goal
use Rattle.merkle_replica.proofs.seek.count_within.Goals.{then-found, else-found}

pub counting-init : goal.counting-init
counting-init g c = record { inside = omega arith; counts = counts_none g.K.Ord.cmp g.met.K.Ord.total (spans_of c.args.ranges.now) c.args.rows.now c.requires.apart; few = omega arith }

pub counting-preserved : goal.counting-preserved
counting-preserved g c =
    let ss = spans_of c.args.ranges.now in
    let few = c.counting.invariant.few in
    let counts = counts_more g.K.Ord.cmp g.met.K.Ord.total ss c.args.rows.now (drop c.counting.at ss)
    (drop c.seek-next.result.0 ss) c.counting.row-index c.counting.count c.row-item.result c.seek-next.result.1 c.requires.ascending c.counting-test.true
    c.row-item.is c.counting.invariant.counts c.seek-next.ensures.place c.seek-next.ensures.found in
    elim c.if-found.branch [
      | then-found w ↦ rw w.count-is (record { inside = c.seek-next.ensures.bound; counts = rw w.if-found.true at counts; few = omega arith })
      | else-found w ↦ rw w.count-is (record { inside = c.seek-next.ensures.bound; counts = rw w.if-found.false at counts; few = omega arith })
    ]

pub returns : goal.returns
returns g c = counts_all g.K.Ord.cmp g.met.K.Ord.total (spans_of c.args.ranges.now) c.args.rows.now
    (drop c.counting.at (spans_of c.args.ranges.now)) c.counting.row-index c.counting.count (omega arith) c.counting.invariant.counts
