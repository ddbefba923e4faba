use Rattle.std.proofs.Common.{◌≡◌, sym, ◌∙◌, ap, append-nil, subst}
use Rattle.merkle_diff.specs.Entry.{span_of}
use Rattle.key_order.specs.Interval.{is_within}
use Rattle.merkle_diff.specs.DiffRange.{span, spans}
use Rattle.merkle_diff.specs.PageRange.{entry}
use Rattle.merkle_diff.specs.Turn.{Leads, Marked, head_is, last_digest}
use Rattle.merkle_diff.specs.Walk.{after_holders}
use Rattle.merkle_diff.proofs.Stacks.{Agree, agree-from}
use Rattle.merkle_diff.proofs.WalkTurns.{ends-outside, ends-between, enters-met}
use Rattle.merkle_diff.proofs.walk.turn.Goals as goal

pub returns-then-not-head_is_within-clause-meaning : goal.returns-then-not-head_is_within-clause-meaning
returns-then-not-head_is_within-clause-meaning g c =
    ends-outside g.K.Ord.cmp g.I.Iterator.next_gives g.J.Iterator.next_gives c.args.locals.now c.args.peers.now (span c.args.current) c.args.from.now
    (λ m. Marked c.args.marks.now m c.args.marks.now) (sym c.head_is_within.ensures ∙ c.if-not-head_is_within.true)
    (sym (append-nil (spans c.args.marks.now.bad.items)), sym (append-nil (spans c.args.marks.now.good.items)))

pub returns-then-not-head_is_within-2-clause-meaning : goal.returns-then-not-head_is_within-2-clause-meaning
returns-then-not-head_is_within-2-clause-meaning g c =
    let x = c.in-Some.entry in
    let t = ap (head_is (λ r. is_within g.K.Ord.cmp (span_of (entry r)) (span c.args.current))) c.in-Some.ensures.head ∙ (sym c.head_is_within.ensures ∙ c.if-not-head_is_within.false) in
    ends-between g.K.Ord.cmp g.I.Iterator.next_gives g.J.Iterator.next_gives c.args.locals.now c.args.peers.now c.take_head.new.queue (span c.args.current) c.args.from.now
    (λ m. Marked c.args.marks.now m c.mark_between.new.marks) x (span c.range-range.result)
    c.in-Some.ensures.head c.in-Some.ensures.steps (sym c.range-range.ensures) t
    (sym c.head_is_within-2.ensures ∙ c.if-not-head_is_within-2.true) c.in_ok-mark_between.ensures

pub returns-clause-meaning : goal.returns-clause-meaning
returns-clause-meaning g c =
    let cmp = g.K.Ord.cmp in
    let x = c.in-Some.entry in
    let s = span c.range-range.result in
    let t = ap (head_is (λ r. is_within cmp (span_of (entry r)) (span c.args.current))) c.in-Some.ensures.head ∙ (sym c.head_is_within.ensures ∙ c.if-not-head_is_within.false) in
    let u = ap (head_is (λ r. is_within cmp (span_of (entry r)) s)) c.in-Some-take_head.ensures.head ∙ (sym c.head_is_within-2.ensures ∙ c.if-not-head_is_within-2.false) in
    enters-met cmp g.I.Iterator.next_gives g.J.Iterator.next_gives c.args.locals.now c.take_head-2.new.queue c.take_holders-digest.new.queue c.args.peers.now
    c.take_head.new.queue c.mark_met.new.peers (span c.args.current) c.args.from.now
    (λ m. Marked c.args.marks.now m c.mark_met.new.marks) x c.in-Some-take_head.first c.take_holders-digest.result c.is_same_digest-agrees.result s
    (sym c.range-range.ensures)
    c.in-Some.ensures.head c.in-Some.ensures.steps c.in-Some-take_head.ensures.head c.in-Some-take_head.ensures.steps t u
    (subst (Agree c.is_same_digest-agrees.result c.take_holders-digest.result) c.into_hash-2.ensures (agree-from c.is_same_digest-agrees.result c.is_same_digest-agrees.ensures))
    (subst (λ d. Leads g.I.Iterator.next_gives c.take_head-2.new.queue c.take_holders-digest.new.queue
    (λ ks ls. (ls ≡ after_holders cmp s ks) × (c.take_holders-digest.result ≡ last_digest cmp s d ks))) c.into_hash.ensures c.take_holders-digest.ensures.leads)
    c.in_ok-mark_met.ensures.leads c.in_ok-mark_met.ensures.marked
