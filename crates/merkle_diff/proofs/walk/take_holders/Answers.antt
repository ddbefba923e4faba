use Rattle.std.proofs.Common.{◌≡◌, sym, ◌∙◌, ap}
use Rattle.merkle_diff.specs.Entry.{span_of}
use Rattle.key_order.specs.Interval.{is_within}
use Rattle.merkle_diff.specs.DiffRange.{span}
use Rattle.merkle_diff.specs.PageRange.{entry}
use Rattle.merkle_diff.specs.Turn.{head_is, last_digest}
use Rattle.merkle_diff.specs.Walk.{after_holders}
use Rattle.merkle_diff.proofs.QueueSteps.{Leads-more, Leads-end, holders-more, holders-stop}
use Rattle.merkle_diff.proofs.walk.take_holders.Goals as goal

pub front-preserved : goal.front-preserved
front-preserved g c =
    let s = span c.args.range in
    let cmp = g.K.Ord.cmp in
    let x = c.in-Some.next in
    let t = ap (head_is (λ r. is_within cmp s (span_of (entry r)))) c.in-Some.ensures.head ∙ (sym c.head_holds.ensures ∙ c.front-test.true) in
    record {
      goes = c.in-Some.ensures.goes;
      leads = Leads-more g.I.Iterator.next_gives c.args.queue.now c.front.queue c.take_head.new.queue
          (λ ks ls. (after_holders cmp s ls ≡ after_holders cmp s ks) × (last_digest cmp s c.front.last ls ≡ last_digest cmp s c.args.first ks))
          (λ ks ls. (after_holders cmp s ls ≡ after_holders cmp s ks) × (last_digest cmp s c.into_hash-last.result ls ≡ last_digest cmp s c.args.first ks))
          x (sym c.in-Some.ensures.head) c.in-Some.ensures.steps
          (λ ks ls h. (
            sym (holders-more cmp s c.front.last (entry x) ls t).0 ∙ h.0,
            ap (λ d. last_digest cmp s d ls) c.into_hash-last.ensures
                ∙ (sym (holders-more cmp s c.front.last (entry x) ls t).1 ∙ h.1),
          )) c.front.invariant.leads;
    }

pub returns-after-front-clause-leads : goal.returns-after-front-clause-leads
returns-after-front-clause-leads g c =
    let s = span c.args.range in
    let cmp = g.K.Ord.cmp in
    Leads-end g.I.Iterator.next_gives c.args.queue.now c.front.queue
    (λ ks ls. (after_holders cmp s ls ≡ after_holders cmp s ks) × (last_digest cmp s c.front.last ls ≡ last_digest cmp s c.args.first ks))
    (λ ks ls. (ls ≡ after_holders cmp s ks) × (c.front.last ≡ last_digest cmp s c.args.first ks))
    (λ r. is_within cmp s (span_of (entry r))) (sym c.head_holds.ensures ∙ c.front-test.false)
    (λ ks ls h r. (sym (holders-stop cmp s c.front.last ls h).0 ∙ r.0, sym (holders-stop cmp s c.front.last ls h).1 ∙ r.1)) c.front.invariant.leads
