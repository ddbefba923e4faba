use Rattle.std.proofs.Common.{◌≡◌, ◌≤◌, ◌++◌}
use Rattle.merkle_diff.specs.Lookahead.{CanGoOn, items_left}
use Rattle.merkle_diff.specs.DiffRange.{span, spans}
use Rattle.merkle_diff.specs.Turn.{Leads}
use Rattle.merkle_diff.specs.Walk.{after_within, front_within, bad_marks, bad_of, good_of}
use Rattle.merkle_diff.proofs.walk.mark_within.Given as goal

abbrev pub invariant-front : goal.invariant-front
invariant-front g l = record {
  goes : CanGoOn g.I.Iterator.can_next g.I.Iterator.remaining l.queue;
  no_more : items_left g.I.Iterator.remaining l.queue ≤ items_left g.I.Iterator.remaining l.initial.queue;
  leads : Leads g.I.Iterator.next_gives l.initial.queue l.queue (λ qs ps. (after_within g.K.Ord.cmp (span l.outer) ps ≡ after_within g.K.Ord.cmp (span l.outer) qs)
      × (spans l.marks.bad.items ++ bad_of (bad_marks g.K.Ord.cmp (front_within g.K.Ord.cmp (span l.outer) ps)) ≡ spans l.initial.marks.bad.items ++ bad_of
      (bad_marks g.K.Ord.cmp (front_within g.K.Ord.cmp (span l.outer) qs)))
      × (spans l.marks.good.items ++ good_of (bad_marks g.K.Ord.cmp (front_within g.K.Ord.cmp (span l.outer) ps)) ≡ spans l.initial.marks.good.items ++ good_of
      (bad_marks g.K.Ord.cmp (front_within g.K.Ord.cmp (span l.outer) qs))));
}

abbrev pub decreases-front : goal.decreases-front
decreases-front g l = items_left g.I.Iterator.remaining l.queue
