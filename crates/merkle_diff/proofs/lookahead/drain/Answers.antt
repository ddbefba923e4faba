use Rattle.std.proofs.Common.{[], ◌∷◌, sym, ◌∙◌}
use Rattle.merkle_diff.proofs.Queues.{Leaves-cons}
use Rattle.merkle_diff.proofs.lookahead.drain.Goals as goal

pub items-preserved-in-Some : goal.items-preserved-in-Some
items-preserved-in-Some g c = record {
  goes = c.in-Some.ensures.goes;
  ends = λ xs h. c.items.invariant.ends (c.in-Some.field-0 ∷ xs)
      (Leaves-cons g.I.Iterator.next_gives c.items.queue c.take_head.new.queue c.in-Some.field-0 xs c.in-Some.ensures.head c.in-Some.ensures.steps h);
}

pub returns : goal.returns
returns g c = c.items.invariant.ends [] (sym c.take_head.ensures.head ∙ c.in_default.is)
