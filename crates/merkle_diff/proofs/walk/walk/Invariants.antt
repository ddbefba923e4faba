use Rattle.std.proofs.Common.{◌≡◌, ◌+◌, ◌*◌, vec_len, Option}
use Rattle.key_order.specs.Interval.{Span}
use Rattle.merkle_diff.specs.Lookahead.{CanGoOn, items_left}
use Rattle.merkle_diff.specs.DiffRange.{span}
use Rattle.merkle_diff.specs.Walk.{gap_start}
use Rattle.merkle_diff.proofs.WalkLoop.{Goes, stack_of}
use Rattle.merkle_diff.proofs.walk.walk.Given as goal

abbrev pub invariant-turns : goal.invariant-turns
invariant-turns g l = record {
  locals : CanGoOn g.I.Iterator.can_next g.I.Iterator.remaining l.locals;
  peers : CanGoOn g.J.Iterator.can_next g.J.Iterator.remaining l.peers;
  last : Option (Span g.row.K.Denot);
  begins : gap_start (span l.current) last ≡ l.from;
  goes : Goes g.K.Ord.cmp g.I.Iterator.next_gives g.J.Iterator.next_gives (span l.fn.outer) l.initial.marks l.initial.locals l.initial.peers
      (stack_of l.open.items) (span l.current) last l.marks l.locals l.peers;
}

abbrev pub decreases-turns : goal.decreases-turns
decreases-turns g l = 2 * items_left g.J.Iterator.remaining l.peers + vec_len l.open
