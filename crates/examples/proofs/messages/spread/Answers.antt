use Rattle.std.proofs.Common.{◌≡◌, ◌<◌, length, get_or, subst, arith}
use Rattle.merkle_replica.specs.Gossip.{spreading}
use Rattle.merkle_replica.proofs.SideLaws.{same_side, rows_alone}
use Rattle.examples.specs.GossipMessages.{AreMade}
use Rattle.examples.proofs.GossipSessions.{spreads, spreading_stops}
use Rattle.examples.proofs.messages.spread.Goals as goal

pub spreading-preserved : goal.spreading-preserved
spreading-preserved g c =
    let low : c.spreading.i < length c.spreading.others = let t = c.spreading-test.true in omega arith in
    let d = c.index-others-i.result in
    let new = c.catch_up_by_messages.new in
    let e = c.catch_up_by_messages.ensures in
    spreads _ c.args.hub.now _ c.spreading.hub new.peer _ _ d new.replica low (rows_alone (get_or c.spreading.others c.spreading.i d) new.replica e.settings)
    (same_side c.spreading.hub new.peer e.peer_rows e.peer_settings) _ c.in-Ok.ensures.joined c.spreading.invariant

pub returns-in-Err-clause-stopped : goal.returns-in-Err-clause-stopped
returns-in-Err-clause-stopped g c =
    let low : c.spreading.i < length c.spreading.others = let t = c.spreading-test.true in omega arith in
    let d = c.index-others-i.result in
    let new = c.catch_up_by_messages.new in
    let e = c.catch_up_by_messages.ensures in (
      let t = c.spreading-test.true in omega arith,
      spreading_stops _ c.args.hub.now _ c.spreading.hub new.peer _ _ d new.replica low (rows_alone (get_or c.spreading.others c.spreading.i d) new.replica e.settings)
          (same_side c.spreading.hub new.peer e.peer_rows e.peer_settings) _ c.in-Err.ensures.refused c.spreading.invariant,
    )

pub returns-clause-sessions : goal.returns-clause-sessions
returns-clause-sessions g c =
    let laws = g.H.RowHasher.laws in
    let all : c.spreading.i ≡ length c.args.others.now = let t = c.spreading-test.false in omega arith in
    subst (λ n. AreMade laws c.args.hub.now c.args.others.now c.spreading.hub c.spreading.others (spreading n)) all c.spreading.invariant
