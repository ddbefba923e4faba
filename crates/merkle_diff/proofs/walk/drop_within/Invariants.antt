use Rattle.std.proofs.Common.{◌≡◌, ◌≤◌}
use Rattle.merkle_diff.specs.Lookahead.{CanGoOn, items_left}
use Rattle.merkle_diff.specs.DiffRange.{span}
use Rattle.merkle_diff.specs.Turn.{Leads}
use Rattle.merkle_diff.specs.Walk.{after_within}
use Rattle.merkle_diff.proofs.walk.drop_within.Given as goal

abbrev pub invariant-front : goal.invariant-front
invariant-front g l = record {
  goes : CanGoOn g.I.Iterator.can_next g.I.Iterator.remaining l.queue;
  no_more : items_left g.I.Iterator.remaining l.queue ≤ items_left g.I.Iterator.remaining l.initial.queue;
  leads : Leads g.I.Iterator.next_gives l.initial.queue l.queue (λ qs ps. after_within g.K.Ord.cmp (span l.outer) ps ≡ after_within g.K.Ord.cmp (span l.outer) qs);
}

abbrev pub decreases-front : goal.decreases-front
decreases-front g l = items_left g.I.Iterator.remaining l.queue
