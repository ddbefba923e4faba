use Rattle.std.proofs.Common.{◌≡◌}
use Rattle.merkle_diff.specs.Lookahead.{CanGoOn, items_left}
use Rattle.merkle_diff.specs.DiffRange.{span}
use Rattle.merkle_diff.specs.Turn.{Leads, last_digest}
use Rattle.merkle_diff.specs.Walk.{after_holders}
use Rattle.merkle_diff.proofs.walk.take_holders.Given as goal

abbrev pub invariant-front : goal.invariant-front
invariant-front g l = record {
  goes : CanGoOn g.I.Iterator.can_next g.I.Iterator.remaining l.queue;
  leads : Leads g.I.Iterator.next_gives l.initial.queue l.queue (λ ks ls. (after_holders g.K.Ord.cmp (span l.range) ls ≡ after_holders g.K.Ord.cmp (span l.range) ks)
      × (last_digest g.K.Ord.cmp (span l.range) l.last ls ≡ last_digest g.K.Ord.cmp (span l.range) l.fn.first ks));
}

abbrev pub decreases-front : goal.decreases-front
decreases-front g l = items_left g.I.Iterator.remaining l.queue
