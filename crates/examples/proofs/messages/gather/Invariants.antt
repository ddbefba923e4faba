use Rattle.std.proofs.Common.{◌≡◌, map, take}
use Rattle.std.specs.List.{AllByRecursion}
use Rattle.key_order.specs.Map.{IsMap}
use Rattle.merkle_replica.specs.Contents.{side}
use Rattle.merkle_replica.specs.Gossip.{gathering}
use Rattle.examples.specs.GossipMessages.{AreMade}
use Rattle.examples.proofs.messages.gather.Given as goal

-- the hub has caught up with the first of the others, which stay, and whose rows ascend
abbrev pub invariant-gathering : goal.invariant-gathering
invariant-gathering g l = record {
  made : AreMade g.H.RowHasher.laws l.fn.hub l.fn.others l.hub l.others (gathering l.i);
  stay : map side l.others ≡ map side l.fn.others;
  ascending : AllByRecursion (λ s. IsMap g.K.Ord.cmp s.rows) (take l.i (map side l.fn.others));
}
