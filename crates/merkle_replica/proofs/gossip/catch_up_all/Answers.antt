use Rattle.std.proofs.Common.{◌≡◌, ◌+◌, ◌<◌, ℕ, zero, suc, List, [], ◌∷◌, refl, length, map, get_or, set, arith, sym, subst}
use Rattle.std.proofs.Math.Seq.{map-set_same}
use Rattle.std.proofs.lemmas.List.{length-map, get_or-map, map-set}
use Rattle.key_order.specs.Map.{IsMap}
use Rattle.merkle_replica.specs.Contents.{Contents, side}
use Rattle.merkle_replica.specs.Gossip.{StopsGossip, numbered, through_hub}
use Rattle.merkle_replica.specs.Laws.{Laws}
use Rattle.merkle_replica.proofs.Hubs.{GathersOn, SpreadsOn, gathers_on, spreads_on, turns_back}
use Rattle.merkle_replica.proofs.SideLaws.{laws_of, same_side, rows_alone}
use Rattle.merkle_replica.proofs.gossip.catch_up_all.Given.{Over}
use Rattle.merkle_replica.proofs.gossip.catch_up_all.Goals as goal
use Rattle.merkle_replica.proofs.gossip.catch_up_all.Goals.{After-catch_up, After-catch_up-in-spreading}

module _ {K V H : Type 0} where
  same_place : (xs : List (Contents K V H)) (i : ℕ) (d c : Contents K V H) → i < length xs → get_or xs i d ≡ get_or xs i c
  same_place [] i d c f = absurd (omega arith)
  same_place (t ∷ xs) zero d c f = refl
  same_place (t ∷ xs) (suc i) d c f = same_place xs i d c (omega arith)

  -- what stands at a place, as a side
  module _ (xs : List (Contents K V H)) (i : ℕ) (d : Contents K V H) (f : i < length xs) where
    side_there : side (get_or xs i d) ≡ get_or (map side xs) i (side (get_or xs i d))
    side_there = sym (get_or-map side xs i d (side (get_or xs i d)) f)

    in_range : i < length (map side xs)
    in_range = let l = length-map xs (side {K = K} {V = V} {H = H}) in omega arith

    -- put back with the same rows and settings
    put_back : (x' : Contents K V H) → side x' ≡ side (get_or xs i d) → map side (set xs i x') ≡ map side xs
    put_back x' s = map-set_same side xs i x' d s

-- the laws of keys, values and hasher
abbrev laws_for : (g : Over) → Laws g.row.K.Denot g.row.V.Denot g.row.H.Denot
laws_for g = laws_of g.K.Ord.cmp g.K.KeyBytes.bytes_of g.H.Hasher-1.digest_of g.V.PartialEq.eq g.V.Join.join_of g.H.Hasher-2.digest_of

-- what comes of the hub's catch-up with the next of the others
gathers_next : (g : Over) (c : After-catch_up g) → GathersOn (laws_for g) (side c.args.hub.now) (map side c.args.others.now) c.gathering.i (side c.gathering.hub) (side c.catch_up.new.self)
    (side (get_or c.gathering.others c.gathering.i c.index-others-i-in-gathering.result)) (map side (set c.gathering.others c.gathering.i c.catch_up.new.peer))
gathers_next g c =
    let xs = c.gathering.others in
    let i = c.gathering.i in
    let d = c.index-others-i-in-gathering.result in
    let f : i < length xs = let t = c.gathering-test.true in omega arith in
    let x = get_or xs i d in
    let hub = c.gathering.hub in
    let hub' = c.catch_up.new.self in
    let x' = c.catch_up.new.peer in
    gathers_on (laws_for g) g.met.K.Ord.total g.met.V.Eq.laws g.met.V.Join.joining (side c.args.hub.now) (map side c.args.others.now) i (side hub) (side hub')
    (map side xs) (map side (set xs i x')) (side x)
    (in_range xs i d f) (side_there xs i d f) (rw g.met.H.RowHasher.laws_are at c.gathering.invariant) (rows_alone hub hub' c.catch_up.ensures.settings)
    (put_back xs i d f x' (same_side x x' c.catch_up.ensures.peer_rows c.catch_up.ensures.peer_settings))

-- what comes of the catch-up of the next of the others with the hub
spreads_next : (g : Over) (c : After-catch_up-in-spreading g)
    → SpreadsOn (laws_for g) (side c.args.hub.now) (map side c.args.others.now) c.spreading.i (side c.spreading.hub) (side c.catch_up-in-spreading.new.peer)
    (side (get_or c.spreading.others c.spreading.i c.index-others-i-in-spreading.result)) (side c.catch_up-in-spreading.new.self)
    (map side (set c.spreading.others c.spreading.i c.catch_up-in-spreading.new.self))
spreads_next g c =
    let xs = c.spreading.others in
    let i = c.spreading.i in
    let d = c.index-others-i-in-spreading.result in
    let f : i < length xs = let t = c.spreading-test.true in omega arith in
    let x = get_or xs i d in
    let hub = c.spreading.hub in
    let hub' = c.catch_up-in-spreading.new.peer in
    let x' = c.catch_up-in-spreading.new.self in
    let e = c.catch_up-in-spreading.ensures in
    let l = length-map c.args.others.now (side {K = g.row.K.Denot} {V = g.row.V.Denot} {H = g.row.H.Denot}) in
    let m = length-map xs (side {K = g.row.K.Denot} {V = g.row.V.Denot} {H = g.row.H.Denot}) in
    let q : length (map side xs) ≡ length (map side c.args.others.now) = omega arith in
    spreads_on (laws_for g) g.met.K.Ord.total g.met.V.Eq.laws g.met.V.Join.joining (side c.args.hub.now) (map side c.args.others.now) i (side hub) (side hub')
    (map side xs) (map side (set xs i x')) (side x) (side x')
    (in_range xs i d f) q (side_there xs i d f) (rw g.met.H.RowHasher.laws_are at c.spreading.invariant) (same_side hub hub' e.peer_rows e.peer_settings)
    (rows_alone x x' e.settings) (map-set side xs i x')

pub gathering-preserved : goal.gathering-preserved
gathering-preserved g c = rw g.met.H.RowHasher.laws_are
    ((gathers_next g (goal.at.gathering-preserved g c).After-catch_up).goes_on c.in-Ok.field-0.joined (rw g.met.H.RowHasher.laws_are at c.in-Ok.ensures.done)
    (rw g.met.H.RowHasher.laws_are at c.in-Ok.ensures.join)
    (subst (λ (y : Contents _ _ _). IsMap g.K.Ord.cmp y.rows)
    (same_place c.gathering.others c.gathering.i c.index-others-i.result c.index-others-i-in-gathering.result
    (let t = c.gathering-test.true in omega arith)) c.rows_ascend-in-gathering.ensures))

pub returns-in-Err-clause-stopped : goal.returns-in-Err-clause-stopped
returns-in-Err-clause-stopped g c = rw g.met.H.RowHasher.laws_are (
    let first = side c.args.hub.now in
    subst (λ n. StopsGossip (laws_for g) c.gathering.i c.in-Err.fault (through_hub n) (numbered first (first ∷ map side c.args.others.now))
    (numbered first (side c.catch_up.new.self ∷ map side (set c.gathering.others c.gathering.i c.catch_up.new.peer))))
    (length-map c.args.others.now side) ((gathers_next g (goal.at.returns-in-Err-clause-stopped g c).After-catch_up).stops c.in-Err.fault (rw g.met.H.RowHasher.laws_are at c.in-Err.ensures.refused)))

pub spreading-init : goal.spreading-init
spreading-init g c = rw g.met.H.RowHasher.laws_are (
    let l = length-map c.args.others.now (side {K = g.row.K.Denot} {V = g.row.V.Denot} {H = g.row.H.Denot}) in
    let all : c.gathering.i ≡ length (map side c.args.others.now) = let t = c.gathering-test.false in omega arith in
    turns_back (laws_for g) g.met.K.Ord.total g.met.V.Eq.laws g.met.V.Join.joining (side c.args.hub.now) (map side c.args.others.now) c.gathering.i
    (side c.gathering.hub) (map side c.gathering.others) all
    (rw g.met.H.RowHasher.laws_are at c.gathering.invariant))

pub spreading-preserved : goal.spreading-preserved
spreading-preserved g c = rw g.met.H.RowHasher.laws_are
    ((spreads_next g (goal.at.spreading-preserved g c).After-catch_up-in-spreading).goes_on c.in-Ok-catch_up.field-0.joined (rw g.met.H.RowHasher.laws_are at c.in-Ok-catch_up.ensures.done)
    (rw g.met.H.RowHasher.laws_are at c.in-Ok-catch_up.ensures.join))

pub returns-in-Err-catch_up-clause-stopped : goal.returns-in-Err-catch_up-clause-stopped
returns-in-Err-catch_up-clause-stopped g c = rw g.met.H.RowHasher.laws_are (
    let first = side c.args.hub.now in
    let i = c.spreading.i in
    let after = numbered first (side c.catch_up-in-spreading.new.peer ∷ map side (set c.spreading.others i c.catch_up-in-spreading.new.self)) in
    subst (λ n. StopsGossip (laws_for g) (n + i) c.in-Err-catch_up.fault (through_hub n) (numbered first (first ∷ map side c.args.others.now)) after) (length-map c.args.others.now side)
    ((spreads_next g (goal.at.returns-in-Err-catch_up-clause-stopped g c).After-catch_up-in-spreading).stops c.in-Err-catch_up.fault
    (rw g.met.H.RowHasher.laws_are at c.in-Err-catch_up.ensures.refused)))
