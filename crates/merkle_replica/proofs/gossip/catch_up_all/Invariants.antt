use Rattle.std.proofs.Common.{map}
use Rattle.merkle_replica.specs.Contents.{side}
use Rattle.merkle_replica.proofs.HubStates.{IsGathered, IsSpread}
use Rattle.merkle_replica.proofs.gossip.catch_up_all.Given as goal

abbrev pub invariant-gathering : goal.invariant-gathering
invariant-gathering g l = IsGathered g.H.RowHasher.laws (side l.fn.hub) (map side l.fn.others) l.i (side l.hub) (map side l.others)

abbrev pub invariant-spreading : goal.invariant-spreading
invariant-spreading g l = IsSpread g.H.RowHasher.laws (side l.fn.hub) (map side l.fn.others) l.i (side l.hub) (map side l.others)
