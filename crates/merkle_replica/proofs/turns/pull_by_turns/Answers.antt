use Rattle.std.proofs.Common.{[], ◌∷◌, length, length-append, arith, refl, ◌∙◌, ap}
use Rattle.std.proofs.lemmas.List.{length-map}
use Rattle.merkle_replica.specs.Answers.{answer_of}
use Rattle.merkle_replica.proofs.SideLaws.{laws_of}
use Rattle.merkle_replica.proofs.TurnLoop.{starts, goes_on, stops_here, ends_converged}
use Rattle.merkle_replica.proofs.turns.pull_by_turns.Goals as goal

pub turning-init : goal.turning-init
turning-init g c = record {
  goes = rw c.in-Ok.ensures.items (starts (laws_of g.K.Ord.cmp g.K.KeyBytes.bytes_of g.H.Hasher-1.digest_of g.V.PartialEq.eq g.V.Join.join_of g.H.Hasher-2.digest_of) c.args.a.now c.args.b.now);
  taken = rw c.in-Ok.ensures.items refl;
  counted = c.in-Ok.ensures.len;
  room = c.in-Ok.ensures.capacity;
}

pub returns-clause-length : goal.returns-clause-length
returns-clause-length g c = let t = c.turning.invariant.taken in omega arith

pub returns-clause-turns : goal.returns-clause-turns
returns-clause-turns g c = rw g.met.H.RowHasher.laws_are (
    let (met, turns, all) = ends_converged
    (laws_of g.K.Ord.cmp g.K.KeyBytes.bytes_of g.H.Hasher-1.digest_of g.V.PartialEq.eq g.V.Join.join_of g.H.Hasher-2.digest_of) g.met.K.Ord.total
    g.met.V.Eq.laws g.met.V.Join.joining c.page_ranges_of_a_map.ensures.listing
    c.args.a.now c.args.b.now c.turning.all.items c.turning.a_pulls c.turning.a c.turning.b c.rows_ascend.ensures c.rows_ascend-2.ensures c.turning.invariant.goes in
    (met, turns, λ f n. all f (let t = c.turning.invariant.taken in let k = length-map c.turning.all.items answer_of in omega arith)))

pub push_reserved-requires : goal.push_reserved-requires
push_reserved-requires g c = let t = c.turning.invariant.counted in let r = c.turning.invariant.room in omega arith

pub turning-preserved : goal.turning-preserved
turning-preserved g c =
    let laws = laws_of g.K.Ord.cmp g.K.KeyBytes.bytes_of g.H.Hasher-1.digest_of g.V.PartialEq.eq g.V.Join.join_of g.H.Hasher-2.digest_of in
    record {
      goes = goes_on laws c.args.a.now c.args.b.now c.turning.a c.turning.b c.turning.all.items c.turning.a_pulls c.turn.new.a c.turn.new.b
          c.push_reserved.new.self.items c.in-Ok-turn.pulled c.push_reserved.ensures.items
          c.turn.ensures.a_settings c.turn.ensures.b_settings (rw g.met.H.RowHasher.laws_are at c.in-Ok-turn.ensures.done) c.turning.invariant.goes;
      taken = let t = c.turning.invariant.taken in ap length c.push_reserved.ensures.items ∙ length-append c.turning.all.items (c.in-Ok-turn.pulled ∷ []) ∙ omega arith;
      counted = let t = c.turning.invariant.counted in let u = c.push_reserved.ensures.len in u ∙ omega arith;
      room = let r = c.turning.invariant.room in let u = c.push_reserved.ensures.capacity in omega arith;
    }

pub returns-in-Err-clause-stopped : goal.returns-in-Err-clause-stopped
returns-in-Err-clause-stopped g c = rw g.met.H.RowHasher.laws_are (
    stops_here (laws_of g.K.Ord.cmp g.K.KeyBytes.bytes_of g.H.Hasher-1.digest_of g.V.PartialEq.eq g.V.Join.join_of g.H.Hasher-2.digest_of)
    c.args.a.now c.args.b.now c.turning.a c.turning.b c.turning.all.items c.turning.a_pulls c.in-Err.fault c.turn.new.a c.turn.new.b
    (rw g.met.H.RowHasher.laws_are at c.in-Err.ensures.refused) c.turning.invariant.goes.turns)
