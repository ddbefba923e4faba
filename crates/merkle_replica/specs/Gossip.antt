-- Catch-ups among any number of replicas, which are named by numbers, and whose rows came to whom.
use Rattle.std.specs.Prelude.{◌≡◌, ℕ, zero, suc, ◌+◌, ◌==◌, Bool, true, List, [], ◌∷◌, ◌++◌, map, Option, None, if◌then◌else◌, slice_index_or, length}
use Rattle.std.specs.List.{AllByRecursion}
use Rattle.key_order.specs.Order.{AnyByRecursion}
use Rattle.std.specs.declared.cmp.Ordering.{Ordering}
use Rattle.key_order.specs.Map.{SameValue, IsMap, get}
use Rattle.key_order.specs.Join.{joined}
use Rattle.merkle_replica.specs.CatchUp.{IsCatchUpOf, IsCatchUpRefused}
use Rattle.merkle_replica.specs.Contents.{Contents, Side, side, with_rows}
use Rattle.merkle_replica.specs.Faithful.{AllFaithful}
use Rattle.merkle_replica.specs.Laws.{Laws}
use Rattle.merkle_replica.specs.declared.catch_up.CatchUpError.{CatchUpError}
use Rattle.merkle_replica.specs.declared.gossip.CatchUpAllError.{CatchUpAllError}
use Rattle.merkle_replica.specs.declared.gossip.CatchUpAllError.TheVariants.{Gathering, Spreading}

module _ {X : Type 0} where
  -- those of a list under the numbers of their places, and another under each number beyond it
  abbrev pub numbered : X → List X → ℕ → X
  numbered beyond xs n = slice_index_or xs n beyond

  -- another one under a number
  abbrev pub changed : (ℕ → X) → ℕ → X → ℕ → X
  changed f i x n = if (n == i) then x else (f n)

-- the steps of a gossip: of each the first number catches up with the second. From those who had come to each, who comes by the steps
abbrev pub come_to : (ℕ → List ℕ) → List (ℕ × ℕ) → ℕ → List ℕ
come_to who [] = who
come_to who (s ∷ steps) = come_to (changed who s.0 (who s.0 ++ who s.1)) steps

-- whose rows come to each by the steps, where each begins with its own
abbrev pub heard : List (ℕ × ℕ) → ℕ → List ℕ
heard = come_to (λ n. n ∷ [])

-- the number 0 catches up with each of the n after it
abbrev pub gathering : ℕ → List (ℕ × ℕ)
gathering zero = []
gathering (suc n) = gathering n ++ (0, suc n) ∷ []

-- each of them catches up with the number 0
abbrev pub spreading : ℕ → List (ℕ × ℕ)
spreading zero = []
spreading (suc n) = spreading n ++ (suc n, 0) ∷ []

-- both
abbrev pub through_hub : ℕ → List (ℕ × ℕ)
through_hub n = gathering n ++ spreading n

module _ {K V : Type 0} (cmp : K → K → Ordering) (eq : V → V → Bool) (join : V → V → V) where
  -- the join of the values that maps have at a key
  abbrev pub joined_at : List (List (K × V)) → K → Option V
  joined_at [] k = None
  joined_at (m ∷ ms) k = joined join (get cmp m k) (joined_at ms k)

  -- `rows` is the join of all these maps
  pub record IsJoinOf (maps : List (List (K × V))) (rows : List (K × V)) : Type 0 where
    pub ascending : IsMap cmp rows
    pub values : (k : K) → SameValue (λ x y. eq x y ≡ true) (get cmp rows k) (joined_at maps k)

  -- each of the first maps is one of the second
  abbrev pub AreAmong : List (List (K × V)) → List (List (K × V)) → Type 0
  AreAmong ms ns = AllByRecursion (λ m. AnyByRecursion (λ n. n ≡ m) ns) ms

  -- the order in which maps are joined doesn't matter, nor how often each is
  abbrev pub OrderIsIndifferent : Type 0
  OrderIsIndifferent = (ms ns : List (List (K × V))) (rows : List (K × V)) → AreAmong ms ns → AreAmong ns ms
      → IsJoinOf ms rows → IsJoinOf ns rows

module _ {K V H : Type 0} (laws : Laws K V H) where
  -- the catch-ups of these steps, one after the other; `met` are the two sides before each
  abbrev pub IsGossip : List (ℕ × ℕ) → (ℕ → Side K V H) → (ℕ → Side K V H) → List (Side K V H × Side K V H) → Type 0
  IsGossip [] sides sides' met = ((n : ℕ) → sides' n ≡ sides n) × (met ≡ [])
  IsGossip (s ∷ steps) sides sides' met =
      (joined : ℕ) × (after : List (K × V)) × (rest : List (Side K V H × Side K V H)) × (met ≡ (sides s.0, sides s.1) ∷ rest)
      × IsCatchUpOf laws (sides s.0) (sides s.1) joined after × IsGossip steps (changed sides s.0 (with_rows (sides s.0) after)) sides' rest

  -- the first `done` of the steps were made, and then memory ran out
  abbrev pub StopsGossip : ℕ → CatchUpError → List (ℕ × ℕ) → (ℕ → Side K V H) → (ℕ → Side K V H) → Type 0
  StopsGossip done fault [] sides sides' = ⊥
  StopsGossip zero fault (s ∷ steps) sides sides' =
      (after : List (K × V)) × IsCatchUpRefused laws (sides s.0) (sides s.1) fault after × ((n : ℕ) → sides' n ≡ changed sides s.0 (with_rows (sides s.0) after) n)
  StopsGossip (suc done) fault (s ∷ steps) sides sides' =
      (joined : ℕ) × (after : List (K × V)) × IsCatchUpOf laws (sides s.0) (sides s.1) joined after
      × StopsGossip done fault steps (changed sides s.0 (with_rows (sides s.0) after)) sides'

  -- by whatever catch-ups, the rows of each are the join of those whose news came to it, while digests are faithful in what is met
  abbrev pub GossipJoins : Type 0
  GossipJoins =
      (steps : List (ℕ × ℕ)) (before after : ℕ → Side K V H) (met : List (Side K V H × Side K V H))
      → ((n : ℕ) → IsMap laws.cmp (before n).rows) → IsGossip steps before after met → AllFaithful laws met
      → (n : ℕ) → IsJoinOf laws.cmp laws.eq laws.join (map (λ m. (before m).rows) (heard steps n)) (after n).rows

  -- the same of the steps through a hub
  abbrev pub StopsAtHub : CatchUpAllError → ℕ → (ℕ → Side K V H) → (ℕ → Side K V H) → Type 0
  StopsAtHub (Gathering done fault) n = StopsGossip done fault (through_hub n)
  StopsAtHub (Spreading done fault) n = StopsGossip (n + done) fault (through_hub n)

-- the rows of sides
abbrev pub rows_of_sides : {K V H : Type 0} → List (Side K V H) → List (List (K × V))
rows_of_sides = map (λ s. s.rows)

module _ {K V H : Type 0} (laws : Laws K V H) (hub : Contents K V H) (others : List (Contents K V H)) where
  -- the hub and the others, as sides under the numbers of their places
  abbrev pub numbered_sides : Contents K V H → List (Contents K V H) → ℕ → Side K V H
  numbered_sides hub' others' = numbered (side hub) (map side (hub' ∷ others'))

  -- the catch-ups through the hub were made, and while digests are faithful in the sides that were met, all hold the join of all maps
  abbrev pub AllCatchUp : Contents K V H → List (Contents K V H) → Type 0
  AllCatchUp hub' others' =
      (met : List (Side K V H × Side K V H))
      × IsGossip laws (through_hub (length others)) (numbered_sides hub others) (numbered_sides hub' others') met
      × (AllFaithful laws met → AllByRecursion (λ s. IsJoinOf laws.cmp laws.eq laws.join (rows_of_sides (map side (hub ∷ others))) s.rows)
      (map side (hub' ∷ others')))

  -- memory ran out in one of these catch-ups
  abbrev pub StopsCatchUps : Contents K V H → List (Contents K V H) → CatchUpAllError → Type 0
  StopsCatchUps hub' others' error = StopsAtHub laws error (length others) (numbered_sides hub others) (numbered_sides hub' others')
