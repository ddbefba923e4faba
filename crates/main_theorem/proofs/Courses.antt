-- How two replicas came together.
use Rattle.std.proofs.Common.{◌≡◌, List}
use Rattle.merkle_replica.specs.Contents.{Side}
use Rattle.merkle_replica.specs.Laws.{Laws}
use Rattle.main_theorem.specs.Course.{IsExchangeDone, AreExchanged}
use Rattle.main_theorem.specs.declared.course.Exchange.{Exchange}
use Rattle.main_theorem.specs.declared.course.Exchange.TheVariants.{Apart, ByTurns, ByCatchUps}
use Rattle.main_theorem.specs.declared.course.Exchanged.{Exchanged}
use Rattle.main_theorem.specs.declared.course.Exchanged.TheVariants.{Nothing, Pulled, CaughtUp}

module _ {K V H : Type 0} (laws : Laws K V H) (a b : Side K V H) (a' b' : List (K × V)) (met : List (Side K V H × Side K V H)) where
  -- apart, both have the rows that they had
  pub apart_stay : (asked : Exchange) (made : Exchanged K) → asked ≡ Apart → IsExchangeDone asked made → AreExchanged laws made a b a' b' met → (a' ≡ a.rows) × (b' ≡ b.rows)
  apart_stay Apart Nothing e d x = (x.0, x.1)
  apart_stay Apart (Pulled pulls) e d x = absurd d
  apart_stay Apart (CaughtUp first second) e d x = absurd d
  apart_stay (ByTurns n) made e d x = absurd (let f : ⊥ = cc in f)
  apart_stay ByCatchUps made e d x = absurd (let f : ⊥ = cc in f)
