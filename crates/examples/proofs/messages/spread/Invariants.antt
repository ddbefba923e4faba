use Rattle.merkle_replica.specs.Gossip.{spreading}
use Rattle.examples.specs.GossipMessages.{AreMade}
use Rattle.examples.proofs.messages.spread.Given as goal

-- the first of the others have caught up with the hub
abbrev pub invariant-spreading : goal.invariant-spreading
invariant-spreading g l = AreMade g.H.RowHasher.laws l.fn.hub l.fn.others l.hub l.others (spreading l.i)
