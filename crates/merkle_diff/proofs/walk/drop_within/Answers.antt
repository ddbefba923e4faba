use Rattle.std.proofs.Common.{◌≡◌, ◌<◌, sym, ◌∙◌, arith}
use Rattle.merkle_diff.specs.Entry.{span_of}
use Rattle.key_order.specs.Interval.{is_within}
use Rattle.merkle_diff.specs.Lookahead.{items_left}
use Rattle.merkle_diff.proofs.Queues.{some_at}
use Rattle.merkle_diff.specs.DiffRange.{span}
use Rattle.merkle_diff.specs.PageRange.{entry}
use Rattle.merkle_diff.specs.Walk.{after_within}
use Rattle.merkle_diff.proofs.QueueSteps.{head-item, Leads-more, Leads-end, within-more, within-stops}
use Rattle.merkle_diff.proofs.walk.drop_within.Goals as goal

pub front-preserved : goal.front-preserved
front-preserved g c =
    let s = span c.args.outer in
    let cmp = g.K.Ord.cmp in
    let t = head-item (λ r. is_within cmp (span_of (entry r)) s) c.front.queue.head (sym c.head_is_within.ensures ∙ c.front-test.true) in
    let n : items_left g.I.Iterator.remaining c.take_head-taken.new.queue < items_left g.I.Iterator.remaining c.front.queue =
    some_at (λ _. items_left g.I.Iterator.remaining c.take_head-taken.new.queue < items_left g.I.Iterator.remaining c.front.queue) c.front.queue.head t.0
    (sym t.1) c.take_head-taken.ensures.nearer in
    record {
      goes = c.take_head-taken.ensures.goes;
      no_more = omega arith;
      leads = Leads-more g.I.Iterator.next_gives c.args.queue.now c.front.queue c.take_head-taken.new.queue
          (λ qs ps. after_within cmp s ps ≡ after_within cmp s qs) (λ qs ps. after_within cmp s ps ≡ after_within cmp s qs) t.0 t.1 c.take_head-taken.ensures.steps
          (λ qs ps h. sym (within-more cmp s (entry t.0) ps t.2).0 ∙ h) c.front.invariant.leads;
    }

pub returns-clause-leads : goal.returns-clause-leads
returns-clause-leads g c =
    let s = span c.args.outer in
    let cmp = g.K.Ord.cmp in
    Leads-end g.I.Iterator.next_gives c.args.queue.now c.front.queue (λ qs ps. after_within cmp s ps ≡ after_within cmp s qs)
    (λ qs ps. ps ≡ after_within cmp s qs) (λ r. is_within cmp (span_of (entry r)) s) (sym c.head_is_within.ensures ∙ c.front-test.false)
    (λ qs ps h r. sym (within-stops cmp s ps h).0 ∙ r) c.front.invariant.leads
