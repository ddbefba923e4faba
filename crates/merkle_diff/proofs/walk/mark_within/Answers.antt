use Rattle.std.proofs.Common.{◌≡◌, sym, ◌∙◌, ap, arith, ◌<◌, ◌++◌, ◌∷◌}
use Rattle.merkle_diff.specs.Entry.{span_of}
use Rattle.key_order.specs.Interval.{is_within}
use Rattle.merkle_diff.specs.DiffRange.{span, spans}
use Rattle.merkle_diff.specs.PageRange.{entry, entries}
use Rattle.merkle_diff.specs.Turn.{head_is, Marked}
use Rattle.merkle_diff.specs.Lookahead.{items_left}
use Rattle.merkle_diff.specs.Walk.{after_within, front_within, bad_marks}
use Rattle.merkle_diff.proofs.Queues.{some_at}
use Rattle.merkle_diff.proofs.QueueSteps.{Leads-more, Leads-end, Marking, mark-more, mark-end, added, within-stops}
use Rattle.merkle_diff.proofs.walk.mark_within.Goals as goal

pub front-preserved : goal.front-preserved
front-preserved g c =
    let s = span c.args.outer in
    let cmp = g.K.Ord.cmp in
    let x = c.in-Some.taken in
    let B0 = spans c.args.marks.now.bad.items in
    let G0 = spans c.args.marks.now.good.items in
    let B = spans c.front.marks.bad.items in
    let B' = spans c.push.new.self.items in
    let G = spans c.front.marks.good.items in
    let t = ap (head_is (λ r. is_within cmp (span_of (entry r)) s)) c.in-Some.ensures.head ∙ (sym c.head_is_within.ensures ∙ c.front-test.true) in
    let n : items_left g.I.Iterator.remaining c.take_head.new.queue < items_left g.I.Iterator.remaining c.front.queue =
    some_at (λ _. items_left g.I.Iterator.remaining c.take_head.new.queue < items_left g.I.Iterator.remaining c.front.queue) c.front.queue.head x c.in-Some.ensures.head c.in-Some.ensures.nearer in
    record {
      goes = c.in-Some.ensures.goes;
      no_more = omega arith;
      leads = Leads-more g.I.Iterator.next_gives c.args.queue.now c.front.queue c.take_head.new.queue
          (Marking cmp s B0 G0 B G) (Marking cmp s B0 G0 B' G)
          x (sym c.in-Some.ensures.head) c.in-Some.ensures.steps
          (λ qs ps h. mark-more cmp s B0 G0 B B' G (entry x) qs ps t
          (λ ys. added c.front.marks.bad.items c.push.new.self.items c.range.result ys c.in_ok-push.ensures.items
          ∙ ap (λ r. B ++ (r ∷ ys)) c.range.ensures) h) c.front.invariant.leads;
    }

pub returns-clause-leads : goal.returns-clause-leads
returns-clause-leads g c =
    let s = span c.args.outer in
    let cmp = g.K.Ord.cmp in
    let B0 = spans c.args.marks.now.bad.items in
    let G0 = spans c.args.marks.now.good.items in
    let B = spans c.front.marks.bad.items in
    let G = spans c.front.marks.good.items in
    Leads-end g.I.Iterator.next_gives c.args.queue.now c.front.queue
    (Marking cmp s B0 G0 B G) (λ qs ps. (ps ≡ after_within cmp s qs) × Marked c.args.marks.now (bad_marks cmp (front_within cmp s qs)) c.front.marks)
    (λ r. is_within cmp (span_of (entry r)) s) (sym c.head_is_within.ensures ∙ c.front-test.false)
    (λ qs ps h r. mark-end cmp s B0 G0 B G qs (entries ps) (within-stops cmp s ps h).0 (within-stops cmp s ps h).1 r) c.front.invariant.leads
