-- Pulls by turns, and one of them: a pulls from b, or b from a.
use Rattle.std.specs.Prelude.{◌≡◌, ℕ, ◌≤◌, Bool, true, false, List, map}
use Rattle.std.specs.Global.{Vec}
use Rattle.merkle_replica.specs.Laws.{Laws}
use Rattle.merkle_replica.specs.Contents.{Contents, Side, side}
use Rattle.merkle_replica.specs.Faithful.{AllFaithful}
use Rattle.merkle_replica.specs.Pulls.{IsByTurns, HoldTheJoin}
use Rattle.merkle_replica.specs.Answers.{HasPulled, StopsPulling, StopsByTurns, answer_of}
use Rattle.merkle_replica.specs.declared.pull.Pulled.{Pulled}
use Rattle.merkle_replica.specs.declared.pull.PullError.{PullError}
use Rattle.merkle_replica.specs.declared.turns.TurnsError.{TurnsError}

module _ {K V H : Type 0} (laws : Laws K V H) where
  -- a has pulled, or b has, and the other's rows stay
  abbrev pub IsTurn : Bool → Contents K V H → Contents K V H → Contents K V H → Contents K V H → Pulled K → Type 0
  IsTurn true a b a' b' pulled = HasPulled laws a b a' pulled × (b'.rows ≡ b.rows)
  IsTurn false a b a' b' pulled = HasPulled laws b a b' pulled × (a'.rows ≡ a.rows)

  -- a met the fault, or b did, and the other's rows stay
  abbrev pub IsTurnRefused : Bool → Contents K V H → Contents K V H → Contents K V H → Contents K V H → PullError K → Type 0
  IsTurnRefused true a b a' b' fault = StopsPulling laws a b a' fault × (b'.rows ≡ b.rows)
  IsTurnRefused false a b a' b' fault = StopsPulling laws b a b' fault × (a'.rows ≡ a.rows)

module _ {K V H : Type 0} (laws : Laws K V H) (a b a' b' : Contents K V H) where
  -- n pulls by turns were made, and while digests are faithful in the sides that were met, four or more leave both with the join
  abbrev pub HavePulledByTurns : ℕ → Vec (Pulled K) → Type 0
  HavePulledByTurns n pulled =
      (met : List (Side K V H × Side K V H)) × IsByTurns laws (map answer_of pulled.items) (side a) (side b) a'.rows b'.rows met
      × (AllFaithful laws met → 4 ≤ n → HoldTheJoin laws (side a) (side b) a'.rows b'.rows)

  -- pulls by turns were made, and then one met the fault
  abbrev pub StopInTurns : TurnsError K → Type 0
  StopInTurns error = StopsByTurns laws error.finished.items error.fault (side a) (side b) a'.rows b'.rows
