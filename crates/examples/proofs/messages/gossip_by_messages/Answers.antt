use Rattle.std.proofs.Common.{◌<◌, suc, length, map, sym, ap, subst, ◌∙◌}
use Rattle.std.proofs.lemmas.List.{length-map}
use Rattle.key_order.specs.Map.{IsMap}
use Rattle.merkle_replica.specs.Contents.{side}
use Rattle.merkle_replica.specs.Gossip.{numbered, gathering, spreading, through_hub}
use Rattle.merkle_replica.proofs.SideLaws.{laws_of}
use Rattle.examples.specs.GossipMessages.{sides_of, AreMade}
use Rattle.examples.proofs.GossipSessions.{sessions-append, stops-behind, are_gossip}
use Rattle.examples.proofs.ThroughHub.{all_hold, numbered_each}
use Rattle.examples.proofs.messages.gossip_by_messages.Goals as goal

pub returns-in-Ok-clause-join : goal.returns-in-Ok-clause-join
returns-in-Ok-clause-join g c = rw g.met.H.RowHasher.laws_are (
    let laws = laws_of g.K.Ord.cmp g.K.KeyBytes.bytes_of g.H.Hasher-1.digest_of g.V.PartialEq.eq g.V.Join.join_of g.H.Hasher-2.digest_of in
    let all = c.args.others.now in
    let first = sides_of c.args.hub.now all in
    let mid = sides_of c.gather.new.hub c.gather.new.others in
    let last = sides_of c.spread.new.hub c.spread.new.others in
    let beyond = side c.args.hub.now in
    let count = length all in
    let (met, made) = (rw g.met.H.RowHasher.laws_are at c.in_default.ensures.sessions) beyond in
    let (later, spread) = subst (λ n. AreMade laws c.gather.new.hub c.gather.new.others c.spread.new.hub c.spread.new.others (spreading n)) c.gather.ensures.len
    (rw g.met.H.RowHasher.laws_are at c.in-Ok.ensures.sessions) beyond in
    let sessions = sessions-append laws (gathering count) (spreading count) (numbered beyond first) (numbered beyond mid) (numbered beyond last) met later made spread in
    let ascend = numbered_each (λ s. IsMap g.K.Ord.cmp s.rows) beyond first c.rows.ensures.ascending (c.rows.ensures.ascending, c.in_default.ensures.ascending) in
    let long = ap suc (length-map c.spread.new.others side ∙ c.spread.ensures.len ∙ c.gather.ensures.len) in
    record {
      met = _;
      sessions = sessions;
      join = λ faithful.
          let (gossip, all_faithful) = are_gossip laws g.met.K.Ord.total g.met.V.Eq.laws g.met.V.Join.joining g.met.H.Hasher-2.respects_eq (through_hub count)
          (numbered beyond first) (numbered beyond last) _ ascend sessions faithful in
          all_hold laws c.gossip_joins_what_came.ensures.same beyond (map side all) last count (sym (length-map all side)) long
          ((rw g.met.H.RowHasher.laws_are at c.gossip_joins_what_came.ensures.joins) (through_hub count) (numbered beyond first) (numbered beyond last) _ ascend gossip all_faithful);
    })

pub returns-in-Err-spread-clause-stopped : goal.returns-in-Err-spread-clause-stopped
returns-in-Err-spread-clause-stopped g c =
    let laws = g.H.RowHasher.laws in
    let stopped = c.in-Err-spread.stopped in
    let stops = c.in-Err-spread.ensures.stopped in (
      subst (λ n. stopped.done < n) c.gather.ensures.len stops.0,
      λ beyond.
          let (met, made) = c.in_default.ensures.sessions beyond in
          stops-behind laws (gathering (length c.args.others.now)) (spreading stopped.done) (suc stopped.done, 0) stopped.fault (numbered beyond (sides_of c.args.hub.now c.args.others.now))
          (numbered beyond (sides_of c.gather.new.hub c.gather.new.others)) (numbered beyond (sides_of c.spread.new.hub c.spread.new.others)) met made (stops.1 beyond),
    )
