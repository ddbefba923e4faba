-- What limits do to a catch-up.
use Rattle.std.proofs.Common.{◌≡◌, ℕ, List, length, Option, Some, sym, subst, ◌∙◌, ◌⊎◌, inl, inr}
use Rattle.std.proofs.lemmas.List.Sorted.{length_permutation}
use Rattle.std.specs.declared.cmp.Ordering.{Ordering}
use Rattle.merkle_replica.specs.Contents.{Side}
use Rattle.merkle_replica.specs.Laws.{Laws}
use Rattle.merkle_wire.specs.Underway.{IsAskedOf, Found, Underway}
use Rattle.merkle_wire.specs.Limits.{Allows, no_limits, IsLeftOf}
use Rattle.merkle_wire.specs.Next.{HasLeft, IsCame, IsStopped, StaysWithin, IfAsks}
use Rattle.merkle_wire.specs.Taking.{HasTakenReply}
use Rattle.merkle_wire.specs.declared.catching_up.Next.{Next}
use Rattle.merkle_wire.specs.declared.catching_up.Next.TheVariants.{Ask, Came}
use Rattle.merkle_wire.specs.declared.limits.Limit.TheVariants as limit
use Rattle.merkle_wire.specs.declared.limits.Limits.{Limits}
use Rattle.merkle_wire.specs.declared.question.Question.{Question}
use Rattle.merkle_wire.specs.declared.session_error.SessionError.{SessionError}
use Rattle.merkle_wire.specs.declared.session_error.SessionError.TheVariants.{Limit, Memory}
use Rattle.merkle_wire.proofs.AskedFor.{asked_of_keeps}
use Rattle.merkle_wire.specs.declared.limits.Limit.{Limit as LimitOf}

module _ {K V H : Type 0} (laws : Laws K V H) (n : ℕ) (encoding : K → List ℕ) (values : V → List ℕ) (is_key : K → Type 0) (is_value : V → Type 0) (local : Side K V H)
    (before : Underway K V) (reply : List ℕ) where
  abbrev Stopped : SessionError → Type 0
  Stopped = IsStopped laws n encoding values is_key is_value local before reply

  -- without limits none of them stops it
  pub unlimited_stops : (error : SessionError) → before.left ≡ no_limits → Stopped error → (error ≡ Memory) ⊎ ((limit : LimitOf) × (error ≡ Limit limit)) → error ≡ Memory
  unlimited_stops error none stopped (inl memory) = memory
  unlimited_stops error none stopped (inr (reached, is)) = by reached (subst Stopped is stopped)
    where
      by : (l : LimitOf) → Stopped (Limit l) → error ≡ Memory
      by limit.Rows (found, again, taken, over) = absurd (subst (λ l. ¬ Allows l.rows (length found.rows)) none over tt)
      by limit.Replies over = absurd (subst (λ l. ¬ Allows l.replies 1) none over tt)
      by limit.Bytes over = absurd (subst (λ l. ¬ Allows l.bytes (length reply)) none over tt)

module _ {K V H : Type 0} (laws : Laws K V H) (n : ℕ) (encoding : K → List ℕ) (values : V → List ℕ) (is_key : K → Type 0) (is_value : V → Type 0) where
  -- rows that are too many, by what is left of the limits after the reply, stop the side that is the same
  pub over_stops : (local was : Side K V H) (before inside : Underway K V) (reply : List ℕ) (found : Found K V) (again : Option (Question K)) (left : Limits) (rows : ℕ)
      (error : SessionError) → was ≡ local → inside ≡ before
      → HasTakenReply laws n encoding values was inside.asked reply inside.found found again → left.rows ≡ inside.left.rows → rows ≡ length found.rows
      → (error ≡ Limit limit.Rows) × ¬ Allows left.rows rows → IsStopped laws n encoding values is_key is_value local before reply error
  over_stops local was before inside reply found again left rows error l s taken same count (is, over) =
      subst (λ u. IsStopped laws n encoding values is_key is_value local u reply error) s
      (subst (λ t. IsStopped laws n encoding values is_key is_value t inside reply error) l
      (subst (IsStopped laws n encoding values is_key is_value was inside reply) (sym is)
      (found, again, taken, subst (λ l. ¬ Allows l (length found.rows)) same (subst (λ r. ¬ Allows left.rows r) count over))))

module _ {K V : Type 0} where
  -- without limits a catch-up goes on without
  pub stays_unlimited : (before : Underway K V) (reply : ℕ) (next : Next K V) → before.left ≡ no_limits → StaysWithin before reply next → IfAsks (λ session. session.left ≡ no_limits) next
  stays_unlimited before reply (Came rows) none within = tt
  stays_unlimited before reply (Ask session message) none (left, after, (has, rows)) =
      let of_none = subst (λ l. IsLeftOf l.replies 1 left.replies × IsLeftOf l.bytes reply left.bytes × (left.rows ≡ l.rows)) none after in
      has ∙ (λ i. record { replies = of_none.0 i; rows = of_none.2 i; bytes = of_none.1 i })

  -- what is asked for is no row more
  pub asked_allowed : (limit : Option ℕ) (question : Question K) (before after : Found K V) → IsAskedOf (Some question) before after → Allows limit (length before.rows)
      → Allows limit (length after.rows)
  asked_allowed limit question before after asked allowed = subst (λ rows. Allows limit (length rows)) (sym (asked_of_keeps question before after asked)) allowed

  -- the rows that come are those that were found
  pub came_within : (cmp : K → K → Ordering) (left : Limits) (found : List (K × V)) (next : Next K V) → Allows left.rows (length found) → IsCame cmp found next → HasLeft left next
  came_within cmp left found (Ask session message) allowed came = absurd came
  came_within cmp left found (Came rows) allowed came = subst (Allows left.rows) (sym (length_permutation found rows.items came.0)) allowed
