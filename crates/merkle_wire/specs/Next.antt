-- What comes after a reply.
use Rattle.std.specs.Prelude.{◌≡◌, ◌≢◌, ℕ, ◌+◌, [], ◌∷◌, ◌++◌, List, length, Option, Some, None, ⊤}
use Rattle.std.specs.List.{AllByRecursion}
use Rattle.std.specs.List.Sorted.{IsPermutation}
use Rattle.std.specs.declared.cmp.Ordering.{Ordering}
use Rattle.key_order.specs.Map.{IsMap}
use Rattle.key_order.specs.Order.{Same}
use Rattle.merkle_replica.specs.Contents.{Side}
use Rattle.merkle_replica.specs.Laws.{Laws}
use Rattle.merkle_wire.specs.Underway.{IsAskedOf, AsksNothingMore, Found, Underway}
use Rattle.merkle_wire.specs.Coming.{IsAskedFor}
use Rattle.merkle_wire.specs.Fit.{IsFit}
use Rattle.merkle_wire.specs.Limits.{Allows, IsOverLimit, IsLeftOf}
use Rattle.merkle_wire.specs.Questions.{question_bytes}
use Rattle.merkle_wire.specs.Taking.{HasTakenReply}
use Rattle.merkle_wire.specs.declared.catching_up.Next.{Next}
use Rattle.merkle_wire.specs.declared.catching_up.Next.TheVariants.{Ask, Came}
use Rattle.merkle_wire.specs.declared.limits.Limit.TheVariants as limit
use Rattle.merkle_wire.specs.declared.limits.Limits.{Limits}
use Rattle.merkle_wire.specs.declared.question.Question.{Question}
use Rattle.merkle_wire.specs.declared.question.Question.TheVariants.{Outlines}
use Rattle.merkle_wire.specs.declared.session_error.SessionError.{SessionError}
use Rattle.merkle_wire.specs.declared.session_error.SessionError.TheVariants.{Limit, Memory, TooManyRounds, Twice}

-- how many rounds of outlines there are with a question
abbrev pub rounds_with : {K : Type 0} → ℕ → Question K → ℕ
rounds_with rounds (Outlines most gaps) = rounds + 1
rounds_with rounds _ = rounds

module _ {K V : Type 0} (cmp : K → K → Ordering) where
  -- two of the rows have equal keys
  abbrev pub HaveTwins : List (K × V) → Type 0
  HaveTwins rows = (first : K × V) × (next : K × V) × (others : List (K × V)) × IsPermutation rows (first ∷ next ∷ others) × Same cmp first.0 next.0

  -- a catch-up doesn't go on: memory ran out, outlines are to be asked for after 256 rounds of them, or nothing is, and two of the rows have equal keys
  abbrev pub IsEnded : ℕ → Found K V → SessionError → Type 0
  IsEnded rounds found Memory = ⊤
  IsEnded rounds found TooManyRounds = (rounds ≡ 256) × (found.below ≢ [])
  IsEnded rounds found Twice = AsksNothingMore found × HaveTwins found.rows
  IsEnded rounds found _ = ⊥

  -- the rows that are found besides those that were found before are at keys that were asked for
  abbrev pub OnlyAskedFor : Underway K V → Next K V → Type 0
  OnlyAskedFor before (Ask session message) = (new : List (K × V)) × AllByRecursion (λ r. IsAskedFor cmp before.asked r.0) new × (session.found.rows ≡ before.found.rows ++ new)
  OnlyAskedFor before (Came rows) = (new : List (K × V)) × AllByRecursion (λ r. IsAskedFor cmp before.asked r.0) new × IsPermutation (before.found.rows ++ new) rows.items

-- of a catch-up that asks on this holds
abbrev pub IfAsks : {K V : Type 0} → (Underway K V → Type 0) → Next K V → Type 0
IfAsks Holds (Ask session message) = Holds session
IfAsks Holds (Came rows) = ⊤

-- the rows came, in ascending order
abbrev pub IsCame : {K V : Type 0} → (K → K → Ordering) → List (K × V) → Next K V → Type 0
IsCame cmp rows (Ask session message) = ⊥
IsCame cmp rows (Came came) = IsPermutation rows came.items × IsMap cmp came.items

-- the question is asked, with what was found besides, in this many rounds
abbrev pub IsAsked : {K V : Type 0} → (K → List ℕ) → Question K → Found K V → ℕ → Next K V → Type 0
IsAsked encoding question found rounds (Ask session message) =
    (message.items ≡ question_bytes encoding question) × (session ≡ record { asked = question; found = found; rounds = rounds; left = session.left })
IsAsked encoding question found rounds (Came rows) = ⊥

-- the catch-up goes on with what was found: it asks for a part of it, or nothing is to be asked for and the rows came
abbrev pub GoesOn : {K V : Type 0} → (K → K → Ordering) → (K → List ℕ) → ℕ → Found K V → Next K V → Type 0
GoesOn cmp encoding rounds found (Ask session message) =
    IsAskedOf (Some session.asked) found session.found × (message.items ≡ question_bytes encoding session.asked) × (session.rounds ≡ rounds_with rounds session.asked)
GoesOn cmp encoding rounds found (Came rows) = AsksNothingMore found × IsCame cmp found.rows (Came rows)

-- what is left of the question is asked again, or the catch-up goes on
abbrev pub AsksOrGoesOn : {K V : Type 0} → (K → K → Ordering) → (K → List ℕ) → Option (Question K) → ℕ → Found K V → Next K V → Type 0
AsksOrGoesOn cmp encoding None rounds found next = GoesOn cmp encoding rounds found next
AsksOrGoesOn cmp encoding (Some question) rounds found next = IsAsked encoding question found rounds next

module _ {K V H : Type 0} (laws : Laws K V H) (n : ℕ) (encoding : K → List ℕ) (values : V → List ℕ) where
  -- the reply is taken, where digests of values have n bytes, and this comes next
  abbrev pub IsNext : Side K V H → Underway K V → List ℕ → Next K V → Type 0
  IsNext local before reply next = (found : Found K V) × (again : Option (Question K))
      × HasTakenReply laws n encoding values local before.asked reply before.found found again × AsksOrGoesOn laws.cmp encoding again before.rounds found next

  -- it is not taken: memory ran out, it is no reply to what was asked, or goes over a limit; or it could be taken, but the catch-up doesn't go on
  abbrev pub IsStopped : (K → Type 0) → (V → Type 0) → Side K V H → Underway K V → List ℕ → SessionError → Type 0
  IsStopped is_key is_value local before reply Memory = ⊤
  IsStopped is_key is_value local before reply TooManyRounds = (before.rounds ≡ 256) × (found : Found K V)
      × HasTakenReply laws n encoding values local before.asked reply before.found found None × (found.below ≢ [])
  IsStopped is_key is_value local before reply Twice = (found : Found K V) × HasTakenReply laws n encoding values local before.asked reply before.found found None
      × AsksNothingMore found × HaveTwins laws.cmp found.rows
  IsStopped is_key is_value local before reply (Limit limit.Rows) = (found : Found K V) × (again : Option (Question K))
      × HasTakenReply laws n encoding values local before.asked reply before.found found again × ¬ Allows before.left.rows (length found.rows)
  IsStopped is_key is_value local before reply (Limit limit) = IsOverLimit (length reply) before.left (Limit limit)
  IsStopped is_key is_value local before reply _ = ¬ IsFit laws.cmp is_key is_value encoding values n before.asked reply

-- this is left of the limits, and they allow the rows that were found
abbrev pub HasLeft : {K V : Type 0} → Limits → Next K V → Type 0
HasLeft left (Ask session message) = (session.left ≡ left) × Allows left.rows (length session.found.rows)
HasLeft left (Came rows) = Allows left.rows (length rows.items)

-- a reply of this many bytes is taken off the limits, and the rows that were found are within them
abbrev pub StaysWithin : {K V : Type 0} → Underway K V → ℕ → Next K V → Type 0
StaysWithin before reply next = (left : Limits) × (IsLeftOf before.left.replies 1 left.replies × IsLeftOf before.left.bytes reply left.bytes × (left.rows ≡ before.left.rows)) × HasLeft left next
