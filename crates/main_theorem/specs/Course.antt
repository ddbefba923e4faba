-- How two replicas came together.
use Rattle.std.specs.Prelude.{◌≡◌, ℕ, ◌<◌, ◌≤◌, List, [], ◌∷◌, map, length, Some, ⊤}
use Rattle.key_order.specs.Join.{IsJoin}
use Rattle.merkle_tree_theory.specs.Settings.{Settings}
use Rattle.merkle_replica.specs.Answers.{answer_of}
use Rattle.merkle_replica.specs.CatchUp.{AreCatchUps}
use Rattle.merkle_replica.specs.Contents.{Contents, Side, side, with_rows}
use Rattle.merkle_replica.specs.Faithful.{AllFaithful}
use Rattle.merkle_replica.specs.Laws.{Laws}
use Rattle.merkle_replica.specs.Pulls.{IsByTurns, HoldTheJoin}
use Rattle.merkle_replica.specs.Agreeing.{AreEqual}
use Rattle.main_theorem.specs.declared.course.Exchange.{Exchange}
use Rattle.main_theorem.specs.declared.course.Exchange.TheVariants.{Apart, ByTurns, ByCatchUps}
use Rattle.main_theorem.specs.declared.course.Exchanged.{Exchanged}
use Rattle.main_theorem.specs.declared.course.Exchanged.TheVariants.{Nothing, Pulled, CaughtUp}
use Rattle.main_theorem.specs.declared.course.RunRefused.{RunRefused}
use Rattle.main_theorem.specs.declared.course.RunRefused.TheVariants.{Before, InTurns, InCatchUps}

-- it is enough to bring everything over: four pulls by turns or more, or a catch-up each way
abbrev pub IsEnough : Exchange → Type 0
IsEnough Apart = ⊥
IsEnough (ByTurns n) = 4 ≤ n
IsEnough ByCatchUps = ⊤

module _ {K : Type 0} where
  -- what was asked for was done
  abbrev pub IsExchangeDone : Exchange → Exchanged K → Type 0
  IsExchangeDone Apart Nothing = ⊤
  IsExchangeDone Apart (Pulled pulls) = ⊥
  IsExchangeDone Apart (CaughtUp first second) = ⊥
  IsExchangeDone (ByTurns n) Nothing = ⊥
  IsExchangeDone (ByTurns n) (Pulled pulls) = length pulls.items ≡ n
  IsExchangeDone (ByTurns n) (CaughtUp first second) = ⊥
  IsExchangeDone ByCatchUps Nothing = ⊥
  IsExchangeDone ByCatchUps (Pulled pulls) = ⊥
  IsExchangeDone ByCatchUps (CaughtUp first second) = ⊤

  -- where a run stopped: before the exchange, or in it, after fewer pulls than were asked for
  abbrev pub IsRunStopped : Exchange → RunRefused K → Type 0
  IsRunStopped exchange Before = ⊤
  IsRunStopped Apart (InTurns error) = ⊥
  IsRunStopped Apart (InCatchUps error) = ⊥
  IsRunStopped (ByTurns n) (InTurns error) = length error.finished.items < n
  IsRunStopped (ByTurns n) (InCatchUps error) = ⊥
  IsRunStopped ByCatchUps (InTurns error) = ⊥
  IsRunStopped ByCatchUps (InCatchUps error) = ⊤

module _ {K V H : Type 0} (laws : Laws K V H) where
  -- a side with the settings of a builder, and with rows equal to a map
  pub record IsSideOf (s : Settings H) (m : List (K × V)) (side : Side K V H) : Type 0 where
    pub hasher : side.hasher ≡ s.hasher
    pub base : side.base ≡ s.base
    pub format : side.format ≡ s.format
    pub rows : AreEqual laws.cmp laws.eq side.rows m

  -- from the sides a and b on, the exchange left these rows; `met` are the two sides before each pull or catch-up
  abbrev pub AreExchanged : Exchanged K → Side K V H → Side K V H → List (K × V) → List (K × V) → List (Side K V H × Side K V H) → Type 0
  AreExchanged Nothing a b a' b' met = (a' ≡ a.rows) × (b' ≡ b.rows) × (met ≡ [])
  AreExchanged (Pulled pulls) a b a' b' met = IsByTurns laws (map answer_of pulls.items) a b a' b' met
  AreExchanged (CaughtUp first second) a b a' b' met = AreCatchUps laws a b first.joined second.joined a' b' × (met ≡ (a, b) ∷ (b, with_rows a a') ∷ [])

  -- the exchange that was asked for led from the replicas a and b to a' and b'; and while digests are faithful in what was met on the way, four
  -- pulls by turns or more, or a catch-up each way, leave both with the join
  abbrev pub ComeTogether : Exchange → Contents K V H → Contents K V H → Contents K V H → Contents K V H → Exchanged K → Type 0
  ComeTogether exchange a b a' b' exchanged =
      (met : List (Side K V H × Side K V H)) × AreExchanged exchanged (side a) (side b) a'.rows b'.rows met
      × (AllFaithful laws met → IsEnough exchange → HoldTheJoin laws (side a) (side b) a'.rows b'.rows)

  -- two sides with the settings of a builder came together, from these two maps to these rows
  pub record IsCourse (s : Settings H) (m n : List (K × V)) (exchanged : Exchanged K) (a' b' : List (K × V)) (met : List (Side K V H × Side K V H)) : Type 0 where
    pub a : Side K V H
    pub b : Side K V H
    pub is_a : IsSideOf s m a
    pub is_b : IsSideOf s n b
    pub exchange : AreExchanged exchanged a b a' b' met

  -- both replicas hold the join of two maps, and have one root hash
  pub record AreOne (m n : List (K × V)) (a b : Contents K V H) : Type 0 where
    pub a_joins : IsJoin laws.cmp laws.eq laws.join m n a.rows
    pub b_joins : IsJoin laws.cmp laws.eq laws.join m n b.rows
    pub root_hash : List ℕ
    pub of_a : a.tree.root_hash ≡ Some root_hash
    pub of_b : b.tree.root_hash ≡ Some root_hash
