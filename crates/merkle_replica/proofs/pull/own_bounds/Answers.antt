use Rattle.std.proofs.Common.{rules}
use Rattle.merkle_diff.specs.DiffRange.{span}
use Rattle.merkle_replica.proofs.Asks.{step_same}
use Rattle.merkle_replica.proofs.pull.own_bounds.Goals as goal

pub owning-preserved : goal.owning-preserved
owning-preserved g c =
    let k = g.met.K.SameClone.clone_is_same c.start.result.now c.in_ok-first.first c.in_ok-first.ensures.cases in
    let l = g.met.K.SameClone.clone_is_same c.end.result.now c.in_ok-last.last c.in_ok-last.ensures.cases in
    step_same g.K.Ord.cmp span c.args.found.now c.owning.range-index c.range-item.result c.owning.ranges.items c.push.new.self.items c.in_ok-first.first c.in_ok-last.last
    c.owning-test.true c.range-item.is c.in_ok-push.ensures.items c.owning.invariant (search rules) (search rules)
