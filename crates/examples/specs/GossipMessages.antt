-- Gossip through messages: sessions among any number of replicas, which are named by numbers.
use Rattle.std.specs.Prelude.{◌≡◌, ℕ, suc, ◌<◌, List, [], ◌∷◌, ◌++◌, length, map}
use Rattle.std.specs.List.{AllByRecursion}
use Rattle.merkle_replica.specs.Contents.{Contents, Side, side, with_rows}
use Rattle.merkle_replica.specs.Gossip.{numbered, changed, gathering, spreading, through_hub, IsJoinOf, rows_of_sides}
use Rattle.merkle_replica.specs.Laws.{Laws}
use Rattle.merkle_wire.specs.Sessions.{IsFaithfulSession, HasJoined, IsMessagesRefused}
use Rattle.merkle_wire.specs.declared.session.MessagesError.{MessagesError}
use Rattle.examples.specs.declared.messages.Stopped.{Stopped}
use Rattle.examples.specs.declared.messages.GossipError.{GossipError}
use Rattle.examples.specs.declared.messages.GossipError.TheVariants.{Gathering, Spreading}

module _ {K V H : Type 0} where
  -- the sides of a hub and of others
  abbrev pub sides_of : Contents K V H → List (Contents K V H) → List (Side K V H)
  sides_of hub others = map side (hub ∷ others)

module _ {K V H : Type 0} (laws : Laws K V H) where
  -- the sessions of these steps, one after the other; `met` are the two sides before each
  abbrev pub AreSessions : List (ℕ × ℕ) → (ℕ → Side K V H) → (ℕ → Side K V H) → List (Side K V H × Side K V H) → Type 0
  AreSessions [] sides sides' met = ((n : ℕ) → sides' n ≡ sides n) × (met ≡ [])
  AreSessions (s ∷ steps) sides sides' met =
      (joined : ℕ) × (after : List (K × V)) × (rest : List (Side K V H × Side K V H)) × (met ≡ (sides s.0, sides s.1) ∷ rest)
      × HasJoined laws (sides s.0) (sides s.1) joined after × AreSessions steps (changed sides s.0 (with_rows (sides s.0) after)) sides' rest

  -- digests are faithful in each of the sessions
  abbrev pub AllFaithfulSessions : List (Side K V H × Side K V H) → Type 0
  AllFaithfulSessions = AllByRecursion (λ sides. IsFaithfulSession laws sides.0 sides.1)

  -- the sessions of these steps were made, and that of the next one ended early
  pub record StopsBehind (steps : List (ℕ × ℕ)) (next : ℕ × ℕ) (fault : MessagesError) (sides sides' : ℕ → Side K V H) : Type 0 where
    pub mid : ℕ → Side K V H
    pub met : List (Side K V H × Side K V H)
    pub after : List (K × V)
    pub sessions : AreSessions steps sides mid met
    pub refused : IsMessagesRefused laws (mid next.0) (mid next.1) fault after
    pub last : (n : ℕ) → sides' n ≡ changed mid next.0 (with_rows (mid next.0) after) n

  module _ (hub : Contents K V H) (others : List (Contents K V H)) (hub' : Contents K V H) (others' : List (Contents K V H)) where
    -- the sessions of these steps were made, the hub under the number 0 and the others after it, whatever is beyond them
    abbrev pub AreMade : List (ℕ × ℕ) → Type 0
    AreMade steps = (beyond : Side K V H) → (met : List (Side K V H × Side K V H))
        × AreSessions steps (numbered beyond (sides_of hub others)) (numbered beyond (sides_of hub' others')) met

    -- all sessions by the hub were made, or all with it
    abbrev pub AllGather : Type 0
    AllGather = AreMade (gathering (length others))

    abbrev pub AllSpread : Type 0
    AllSpread = AreMade (spreading (length others))

    -- all sessions by the hub were made, and then all with it; and while digests are faithful in each, all hold the join of all maps
    pub record IsGossipJoined : Type 0 where
      pub met : List (Side K V H × Side K V H)
      pub sessions : AreSessions (through_hub (length others)) (numbered (side hub) (sides_of hub others)) (numbered (side hub) (sides_of hub' others')) met
      pub join : AllFaithfulSessions met → AllByRecursion (λ s. IsJoinOf laws.cmp laws.eq laws.join (rows_of_sides (sides_of hub others)) s.rows) (sides_of hub' others')

    -- a session by the hub ended early
    abbrev pub StopsGathering : Stopped → Type 0
    StopsGathering stopped = (stopped.done < length others) × ((beyond : Side K V H)
        → StopsBehind (gathering stopped.done) (0, suc stopped.done) stopped.fault (numbered beyond (sides_of hub others)) (numbered beyond (sides_of hub' others')))

    -- a session with the hub ended early, after those of these steps
    abbrev pub StopsSpreadingBehind : List (ℕ × ℕ) → Stopped → Type 0
    StopsSpreadingBehind steps stopped = (stopped.done < length others) × ((beyond : Side K V H)
        → StopsBehind (steps ++ spreading stopped.done) (suc stopped.done, 0) stopped.fault (numbered beyond (sides_of hub others)) (numbered beyond (sides_of hub' others')))

    -- a session with the hub ended early, after none by it
    abbrev pub StopsSpreading : Stopped → Type 0
    StopsSpreading = StopsSpreadingBehind []

    -- one of all sessions ended early
    abbrev pub StopsGossipByMessages : GossipError → Type 0
    StopsGossipByMessages (Gathering stopped) = StopsGathering stopped
    StopsGossipByMessages (Spreading stopped) = StopsSpreadingBehind (gathering (length others)) stopped
