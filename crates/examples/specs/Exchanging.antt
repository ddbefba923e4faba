-- An exchange of messages, by digests alone.
use Rattle.std.specs.Prelude.{ℕ, List}
use Rattle.merkle_replica.specs.Contents.{Side}
use Rattle.merkle_replica.specs.Laws.{Laws}
use Rattle.merkle_wire.specs.ItsRows.{ForRowsOf, Kept}
use Rattle.merkle_wire.specs.Underway.{Underway}
use Rattle.merkle_wire.specs.declared.catching_up.Next.{Next}
use Rattle.merkle_wire.specs.SessionLaws.{IsExchange}

-- it is an exchange of a session between a side that keeps these digests, whatever rows it has, and the peer
abbrev pub IsExchangeOf : {K V H : Type 0} (laws : Laws K V H) → ℕ → (K → List ℕ) → (V → List ℕ) → Kept K V H → Side K V H → Underway K V → Next K V → Type 0
IsExchangeOf laws n encoding values own peer before next = ForRowsOf laws own.digests (λ local. IsExchange laws n encoding values local peer before next)
