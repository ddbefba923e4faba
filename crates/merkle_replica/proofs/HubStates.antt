-- Catch-ups through a hub, part way.
use Rattle.std.specs.Prelude.{◌≡◌, ℕ, List, ◌∷◌, ◌++◌, length, take, drop}
use Rattle.std.specs.List.{AllByRecursion}
use Rattle.merkle_replica.specs.Contents.{Side}
use Rattle.merkle_replica.specs.Faithful.{AllFaithful}
use Rattle.merkle_replica.specs.Gossip.{IsGossip, IsJoinOf, gathering, spreading, numbered, rows_of_sides}
use Rattle.merkle_replica.specs.Laws.{Laws}

module _ {K V H : Type 0} (laws : Laws K V H) (hub : Side K V H) (others : List (Side K V H)) where
  -- the side's rows are the join of all of these sides' rows
  abbrev pub HasJoined : List (Side K V H) → Side K V H → Type 0
  HasJoined all s = IsJoinOf laws.cmp laws.eq laws.join (rows_of_sides all) s.rows

  -- the hub has caught up with the first i of the others, which stay
  pub record IsGathered (i : ℕ) (hub' : Side K V H) (others' : List (Side K V H)) : Type 0 where
    pub stay : others' ≡ others
    pub met : List (Side K V H × Side K V H)
    pub gossip : IsGossip laws (gathering i) (numbered hub (hub ∷ others)) (numbered hub (hub' ∷ others')) met
    pub joins : AllFaithful laws met → HasJoined (hub ∷ take i others) hub'

  -- and then the first i of the others with the hub, and the rest of them stay
  pub record IsSpread (i : ℕ) (hub' : Side K V H) (others' : List (Side K V H)) : Type 0 where
    pub done : List (Side K V H)
    pub counted : length done ≡ i
    pub stay : others' ≡ done ++ drop i others
    pub met : List (Side K V H × Side K V H)
    pub gossip : IsGossip laws (gathering (length others) ++ spreading i) (numbered hub (hub ∷ others)) (numbered hub (hub' ∷ others')) met
    pub hub_joins : AllFaithful laws met → HasJoined (hub ∷ others) hub'
    pub others_join : AllFaithful laws met → AllByRecursion (HasJoined (hub ∷ others)) done
