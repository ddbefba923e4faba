use Rattle.std.proofs.Common.{◌<◌, length, sym, ◌∙◌, ap, arith}
use Rattle.std.proofs.lemmas.List.{get_or_default}
use Rattle.key_order.specs.Order.{below}
use Rattle.merkle_replica.proofs.Seeks.{seek_past, seek_here}
use Rattle.merkle_replica.proofs.seek.seek.Goals as goal

pub returns-then-not-is_below-clause-place : goal.returns-then-not-is_below-clause-place
returns-then-not-is_below-clause-place g c =
    let n : c.seeking.at < length c.args.ranges.now = omega arith in
    (seek_here g.K.Ord.cmp g.met.K.Ord.total c.args.ranges.now c.seeking.at c.index-ranges-at.result c.args.key.now n
    (sym c.is_below.ensures ∙ c.if-not-is_below.true)).0 ∙ sym c.seeking.invariant.passed

pub returns-then-not-is_below-clause-found : goal.returns-then-not-is_below-clause-found
returns-then-not-is_below-clause-found g c =
    let n : c.seeking.at < length c.args.ranges.now = omega arith in
    c.is_upto.ensures ∙ (seek_here g.K.Ord.cmp g.met.K.Ord.total c.args.ranges.now c.seeking.at c.index-ranges-at-then-not-is_below.result c.args.key.now n
    (ap (λ (x : g.row.K.Denot × g.row.K.Denot). below g.K.Ord.cmp x.1 c.args.key.now)
    (get_or_default c.args.ranges.now c.seeking.at c.index-ranges-at-then-not-is_below.result c.index-ranges-at.result n)
    ∙ (sym c.is_below.ensures ∙ c.if-not-is_below.true))).1

pub seeking-preserved : goal.seeking-preserved
seeking-preserved g c =
    let n : c.seeking.at < length c.args.ranges.now = omega arith in
    record {
      inside = omega arith;
      passed = c.seeking.invariant.passed ∙ seek_past g.K.Ord.cmp g.met.K.Ord.total c.args.ranges.now c.seeking.at c.index-ranges-at.result c.args.key.now n
          (sym c.is_below.ensures ∙ c.if-not-is_below.false);
    }
