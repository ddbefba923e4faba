use Rattle.std.proofs.Common.{◌≡◌, sym, ◌∙◌, ap, subst, [], ◌∷◌, ◌++◌, Some, None, append-nil, take, ◌-◌}
use Rattle.merkle_diff.specs.DiffRange.{span}
use Rattle.merkle_diff.proofs.WalkLoop.{Goes, stack_of, stack-push, goes-in, goes-out, goes-last}
use Rattle.merkle_diff.proofs.walk.walk.Goals as goal

pub turns-preserved-in-Some : goal.turns-preserved-in-Some
turns-preserved-in-Some g c =
    let m = rw c.in-Some.is at c.in_ok-range.ensures.meaning in
    record {
      locals = c.in_ok-range.ensures.locals;
      peers = c.in_ok-range.ensures.peers;
      last = None;
      begins = sym c.start-from-in-Some.ensures;
      goes = subst (λ st. Goes g.K.Ord.cmp g.I.Iterator.next_gives g.J.Iterator.next_gives
          (span c.args.outer) c.args.marks.now c.args.locals.now c.args.peers.now st (span c.in-Some.range) None c.turn.new.marks c.turn.new.locals c.turn.new.peers)
          (sym (stack-push c.turns.open.items c.push.new.self.items c.turns.current c.in_ok-push-in-Some.ensures.items))
          (goes-in g.K.Ord.cmp g.I.Iterator.next_gives g.J.Iterator.next_gives (span c.args.outer) c.args.marks.now c.args.locals.now c.args.peers.now
          (stack_of c.turns.open.items) (span c.turns.current)
          (span c.in-Some.range) c.turns.invariant.last c.turns.from.now c.turns.marks c.turn.new.marks c.turns.locals c.turn.new.locals c.turns.peers c.turn.new.peers
          c.turns.invariant.begins c.turns.invariant.goes m);
    }

pub returns-in_default-clause-meaning : goal.returns-in_default-clause-meaning
returns-in_default-clause-meaning g c =
    let m = rw c.in-None.is at c.in_ok-range.ensures.meaning in
    let e : c.turns.open.items ≡ [] = c.in_default.ensures.items
    ∙ (append-nil c.pop.new.self.items ∙ (c.in_default.ensures.rest ∙ ap (λ n. take (n - 1) c.turns.open.items) c.in_default.ensures.cases.0)) in
    goes-last g.K.Ord.cmp g.I.Iterator.next_gives g.J.Iterator.next_gives (span c.args.outer) c.args.marks.now c.args.locals.now c.args.peers.now
    (span c.turns.current) c.turns.invariant.last c.turns.from.now c.turns.marks c.turn.new.marks c.turns.locals c.turn.new.locals c.turns.peers c.turn.new.peers
    c.turns.invariant.begins
    (subst (λ xs. Goes g.K.Ord.cmp g.I.Iterator.next_gives g.J.Iterator.next_gives (span c.args.outer) c.args.marks.now c.args.locals.now c.args.peers.now
    (stack_of xs) (span c.turns.current) c.turns.invariant.last c.turns.marks c.turns.locals c.turns.peers) e c.turns.invariant.goes) m

pub turns-preserved : goal.turns-preserved
turns-preserved g c =
    let m = rw c.in-None.is at c.in_ok-range.ensures.meaning in
    let e : c.turns.open.items ≡ c.pop.new.self.items ++ c.in-Some-pop.below ∷ [] = c.in-Some-pop.ensures.items in
    record {
      locals = c.in_ok-range.ensures.locals;
      peers = c.in_ok-mark_within-in-None.ensures.goes;
      last = Some (span c.turns.current);
      begins = sym c.end-from.ensures;
      goes = goes-out g.K.Ord.cmp g.I.Iterator.next_gives g.J.Iterator.next_gives (span c.args.outer) c.args.marks.now c.args.locals.now c.args.peers.now
          (stack_of c.pop.new.self.items) (span c.in-Some-pop.below)
          (span c.turns.current) c.turns.invariant.last c.turns.from.now c.turns.marks c.turn.new.marks c.mark_within.new.marks c.turns.locals c.turn.new.locals
          c.turns.peers c.turn.new.peers c.mark_within.new.queue
          c.turns.invariant.begins
          (subst (λ st. Goes g.K.Ord.cmp g.I.Iterator.next_gives g.J.Iterator.next_gives
          (span c.args.outer) c.args.marks.now c.args.locals.now c.args.peers.now st (span c.turns.current) c.turns.invariant.last c.turns.marks c.turns.locals c.turns.peers)
          (stack-push c.pop.new.self.items c.turns.open.items c.in-Some-pop.below e) c.turns.invariant.goes)
          m c.in_ok-mark_within-in-None.ensures.leads;
    }
