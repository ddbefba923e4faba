use Rattle.std.proofs.Common.{◌≡◌, ◌<◌, length, get_or, subst, arith}
use Rattle.std.proofs.lemmas.List.{get_or_default}
use Rattle.key_order.specs.Map.{IsMap}
use Rattle.merkle_replica.specs.Contents.{Contents}
use Rattle.merkle_replica.specs.Gossip.{gathering}
use Rattle.merkle_replica.proofs.SideLaws.{same_side, rows_alone}
use Rattle.examples.specs.GossipMessages.{AreMade}
use Rattle.examples.proofs.GossipSessions.{gathers, gathering_stops, stay_more, ascend_more}
use Rattle.examples.proofs.messages.gather.Goals as goal

pub gathering-preserved : goal.gathering-preserved
gathering-preserved g c =
    let xs = c.gathering.others in
    let i = c.gathering.i in
    let d = c.index-others-i-in-gathering.result in
    let low : i < length xs = let t = c.gathering-test.true in omega arith in
    let x' = c.catch_up_by_messages.new.peer in
    let e = c.catch_up_by_messages.ensures in
    let stays = same_side (get_or xs i d) x' e.peer_rows e.peer_settings in
    let up = subst (λ (y : Contents _ _ _). IsMap g.K.Ord.cmp y.rows) (get_or_default xs i c.index-others-i.result d low) c.rows.ensures.ascending in
    record {
      made = gathers _ c.args.hub.now _ c.gathering.hub c.catch_up_by_messages.new.replica _ _ d x' low (rows_alone c.gathering.hub c.catch_up_by_messages.new.replica e.settings) stays
          _ c.in-Ok.ensures.joined c.gathering.invariant.made;
      stay = stay_more c.args.others.now xs i d x' stays c.gathering.invariant.stay;
      ascending = ascend_more g.K.Ord.cmp c.args.others.now xs i d low c.gathering.invariant.stay up c.gathering.invariant.ascending;
    }

pub returns-in-Err-clause-stopped : goal.returns-in-Err-clause-stopped
returns-in-Err-clause-stopped g c =
    let low : c.gathering.i < length c.gathering.others = let t = c.gathering-test.true in omega arith in
    let d = c.index-others-i-in-gathering.result in
    let new = c.catch_up_by_messages.new in
    let e = c.catch_up_by_messages.ensures in (
      let t = c.gathering-test.true in omega arith,
      gathering_stops _ c.args.hub.now _ c.gathering.hub new.replica _ _ d new.peer low (rows_alone c.gathering.hub new.replica e.settings)
          (same_side (get_or c.gathering.others c.gathering.i d) new.peer e.peer_rows e.peer_settings) _ c.in-Err.ensures.refused c.gathering.invariant.made,
    )

pub returns-clause-sessions : goal.returns-clause-sessions
returns-clause-sessions g c =
    let laws = g.H.RowHasher.laws in
    let all : c.gathering.i ≡ length c.args.others.now = let t = c.gathering-test.false in omega arith in
    subst (λ n. AreMade laws c.args.hub.now c.args.others.now c.gathering.hub c.gathering.others (gathering n)) all c.gathering.invariant.made
