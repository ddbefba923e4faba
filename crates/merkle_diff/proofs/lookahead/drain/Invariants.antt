use Rattle.std.proofs.Common.{List}
use Rattle.merkle_diff.specs.Lookahead.{CanGoOn, LeavesItems, items_left}
use Rattle.merkle_diff.proofs.lookahead.drain.Given as goal

-- what follows what was taken is the end of what the queue leaves
abbrev pub invariant-items : goal.invariant-items
invariant-items g l = record {
  goes : CanGoOn g.I.Iterator.can_next g.I.Iterator.remaining l.queue;
  ends : (xs : List g.row.X.Denot) → LeavesItems g.I.Iterator.next_gives l.queue xs → (ys : List g.row.X.Denot) × LeavesItems g.I.Iterator.next_gives l.initial.queue ys;
}

abbrev pub decreases-items : goal.decreases-items
decreases-items g l = items_left g.I.Iterator.remaining l.queue
