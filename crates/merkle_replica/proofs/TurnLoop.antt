-- The loop of pulls by turns.
use Rattle.std.proofs.Common.{◌≡◌, ◌≤◌, Bool, true, false, not, List, [], ◌∷◌, ◌++◌, refl, sym, ◌∙◌, ap, subst, map, length, append_assoc, append-nil}
use Rattle.std.specs.Cmp.{IsTotalOrder, IsEquivalence}
use Rattle.key_order.specs.Map.{IsMap}
use Rattle.key_order.specs.Join.{IsJoining}
use Rattle.merkle_tree_theory.specs.State.{SameSettings}
use Rattle.merkle_replica.specs.Laws.{Laws}
use Rattle.merkle_replica.specs.Contents.{Contents, Side, side, with_rows}
use Rattle.merkle_replica.specs.Pulls.{Answer, IsPull, IsByTurns, HoldTheJoin}
use Rattle.merkle_replica.specs.Faithful.{AllFaithful}
use Rattle.merkle_replica.specs.Answers.{answer_of, IsRefused, StopsByTurns}
use Rattle.merkle_replica.specs.ByTurns.{IsTurn, IsTurnRefused}
use Rattle.merkle_replica.specs.declared.pull.Pulled.{Pulled}
use Rattle.merkle_replica.specs.declared.pull.PullError.{PullError}
use Rattle.merkle_replica.proofs.Convergence.{converges}
use Rattle.merkle_replica.proofs.Listings.{AreListings}
use Rattle.merkle_replica.proofs.SideLaws.{same_side, rows_alone}

one_more : {X Y : Type 0} (f : X → Y) (xs : List X) (x : X) (ys : List Y) → map f (xs ++ x ∷ []) ++ ys ≡ map f xs ++ f x ∷ ys
one_more f [] x ys = refl
one_more f (z ∷ zs) x ys = ap (λ w. f z ∷ w) (one_more f zs x ys)

module _ {K V H : Type 0} (laws : Laws K V H) where
  -- the turns so far, where p pulls next, and then q: whatever follows, `Whole` holds of all answers and of the rows that are left, and `Stopped` where a fault comes at last
  pub record Turns (Whole : List (Answer K) → List (K × V) → List (K × V) → Type 0)
      (Stopped : List (Pulled K) → PullError K → List (K × V) → List (K × V) → Type 0) (done : List (Pulled K)) (p q : Contents K V H) : Type 0 where
    pub follows : (qs : List (Answer K)) (p' q' : List (K × V)) (met : List (Side K V H × Side K V H)) → IsByTurns laws qs (side p) (side q) p' q' met → Whole (map answer_of done ++ qs) p' q'
    pub stops : (ps : List (Pulled K)) (fault : PullError K) (p' q' : List (K × V)) → StopsByTurns laws ps fault (side p) (side q) p' q' → Stopped (done ++ ps) fault p' q'

  module _ (Whole : List (Answer K) → List (K × V) → List (K × V) → Type 0) (Stopped : List (Pulled K) → PullError K → List (K × V) → List (K × V) → Type 0)
      (done : List (Pulled K)) (p q : Contents K V H) (t : Turns Whole Stopped done p q) where
    -- one more turn
    turn : (p1 q1 : Contents K V H) (pulled : Pulled K) → SameSettings p.tree p1.tree → SameSettings q.tree q1.tree
        → IsPull laws (side p) (side q) (answer_of pulled) p1.rows × (q1.rows ≡ q.rows)
        → Turns (λ qs x y. Whole qs y x) (λ ps fault x y. Stopped ps fault y x) (done ++ pulled ∷ []) q1 p1
    turn p1 q1 pulled sp sq h = record {
      follows = λ qs q' p' met more.
          let rest = subst (λ s. IsByTurns laws qs s (with_rows (side p) p1.rows) q' p' met) (same_side q q1 h.1 sq) (subst (λ s. IsByTurns laws qs (side q1) s q' p' met) (rows_alone p p1 sp) more) in
          subst (λ ps. Whole ps p' q') (sym (one_more answer_of done pulled qs)) (t.follows (answer_of pulled ∷ qs) p' q' ((side p, side q) ∷ met) (p1.rows, met, refl, h.0, rest));
      stops = λ ps fault q' p' more.
          let rest = subst (λ s. StopsByTurns laws ps fault s (with_rows (side p) p1.rows) q' p') (same_side q q1 h.1 sq)
          (subst (λ s. StopsByTurns laws ps fault (side q1) s q' p') (rows_alone p p1 sp) more) in
          subst (λ qs. Stopped qs fault p' q') (sym (append_assoc done (pulled ∷ []) ps)) (t.stops (pulled ∷ ps) fault p' q' (p1.rows, h.0, rest));
    }

    -- a fault
    halt : (fault : PullError K) (p' q' : List (K × V)) → IsRefused laws (side p) (side q) fault p' × (q' ≡ q.rows) → Stopped done fault p' q'
    halt fault p' q' h = subst (λ ps. Stopped ps fault p' q') (append-nil done) (t.stops [] fault p' q' h)

    -- no more turns
    end : Whole (map answer_of done) p.rows q.rows
    end = subst (λ qs. Whole qs p.rows q.rows) (append-nil (map answer_of done)) (t.follows [] p.rows q.rows [] (refl, refl, refl))

  further : (a b c : Contents K V H) → SameSettings a.tree b.tree → SameSettings b.tree c.tree → SameSettings a.tree c.tree
  further a b c s t = (t.0 ∙ s.0, t.1 ∙ s.1, t.2 ∙ s.2)

  module _ (a0 b0 : Contents K V H) where
    abbrev Whole : List (Answer K) → List (K × V) → List (K × V) → Type 0
    Whole qs a' b' = (met : List (Side K V H × Side K V H)) × IsByTurns laws qs (side a0) (side b0) a' b' met

    abbrev Stopped : List (Pulled K) → PullError K → List (K × V) → List (K × V) → Type 0
    Stopped ps fault a' b' = StopsByTurns laws ps fault (side a0) (side b0) a' b'

    -- the turns so far, where a pulls next or b does
    abbrev pub Going : List (Pulled K) → Bool → Contents K V H → Contents K V H → Type 0
    Going done true a b = Turns Whole Stopped done a b
    Going done false a b = Turns (λ qs x y. Whole qs y x) (λ ps fault x y. Stopped ps fault y x) done b a

    pub record Goes (done : List (Pulled K)) (next : Bool) (a b : Contents K V H) : Type 0 where
      pub settings_a : SameSettings a0.tree a.tree
      pub settings_b : SameSettings b0.tree b.tree
      pub turns : Going done next a b

    pub starts : Goes [] true a0 b0
    starts = record { settings_a = (refl, refl, refl); settings_b = (refl, refl, refl); turns = record { follows = λ qs a' b' met t. (met, t); stops = λ ps fault a' b' t. t } }

    module _ (a b : Contents K V H) (done : List (Pulled K)) where
      turned : (next : Bool) (a1 b1 : Contents K V H) (pulled : Pulled K) → SameSettings a.tree a1.tree → SameSettings b.tree b1.tree
          → IsTurn laws next a b a1 b1 pulled → Going done next a b → Going (done ++ pulled ∷ []) (not next) a1 b1
      turned true a1 b1 pulled sa sb h t = turn _ _ done a b t a1 b1 pulled sa sb h
      turned false a1 b1 pulled sa sb h t = turn _ _ done b a t b1 a1 pulled sb sa h

      pub goes_on : (next : Bool) (a1 b1 : Contents K V H) (done' : List (Pulled K)) (pulled : Pulled K) → done' ≡ done ++ pulled ∷ []
          → SameSettings a.tree a1.tree → SameSettings b.tree b1.tree → IsTurn laws next a b a1 b1 pulled → Goes done next a b → Goes done' (not next) a1 b1
      goes_on next a1 b1 done' pulled d sa sb h g = record {
        settings_a = further a0 a a1 g.settings_a sa;
        settings_b = further b0 b b1 g.settings_b sb;
        turns = subst (λ ps. Going ps (not next) a1 b1) (sym d) (turned next a1 b1 pulled sa sb h g.turns);
      }

      pub stops_here : (next : Bool) (fault : PullError K) (a' b' : Contents K V H) → IsTurnRefused laws next a b a' b' fault → Going done next a b
          → StopsByTurns laws done fault (side a0) (side b0) a'.rows b'.rows
      stops_here true fault a' b' h t = halt _ _ done a b t fault a'.rows b'.rows h
      stops_here false fault a' b' h t = halt _ _ done b a t fault b'.rows a'.rows h

      ends : (next : Bool) → Going done next a b → (met : List (Side K V H × Side K V H)) × IsByTurns laws (map answer_of done) (side a0) (side b0) a.rows b.rows met
      ends true t = end _ _ done a b t
      ends false t = end _ _ done b a t

  module _ (o : IsTotalOrder laws.cmp) (e : IsEquivalence laws.eq) (j : IsJoining laws.eq laws.join) (lists : AreListings laws) where
    -- and with four turns or more, both hold the join
    pub ends_converged : (a0 b0 : Contents K V H) (done : List (Pulled K)) (next : Bool) (a b : Contents K V H) → IsMap laws.cmp a0.rows → IsMap laws.cmp b0.rows → Goes a0 b0 done next a b
        → (met : List (Side K V H × Side K V H)) × IsByTurns laws (map answer_of done) (side a0) (side b0) a.rows b.rows met
        × (AllFaithful laws met → 4 ≤ length (map answer_of done) → HoldTheJoin laws (side a0) (side b0) a.rows b.rows)
    ends_converged a0 b0 done next a b aa ab g =
        let (met, turns) = ends a0 b0 a b done next g.turns in
        (met, turns, λ faith n. converges laws o e j lists (map answer_of done) (side a0) (side b0) a.rows b.rows met aa ab turns faith n)
