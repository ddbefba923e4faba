-- What comes after a reply that was taken.
use Rattle.std.proofs.Common.{◌≡◌, ◌≢◌, ℕ, List, [], Option, Some, None, sym, ap, subst, ◌∙◌, inl, inr, ◌≤◌, ◌⊎◌}
use Rattle.std.specs.declared.cmp.Ordering.{Ordering}
use Rattle.merkle_replica.specs.Contents.{Side}
use Rattle.merkle_replica.specs.Laws.{Laws}
use Rattle.merkle_wire.specs.Underway.{IsAskedOf, AsksNothingMore, Found, Underway}
use Rattle.merkle_wire.specs.ByDigests.{IsStoppedWith}
use Rattle.merkle_wire.specs.Faults.{IsNotTaken, IsRefusedFor}
use Rattle.merkle_wire.specs.ItsRows.{Digests, side_of}
use Rattle.merkle_wire.specs.declared.session_error.TakeError.{TakeError}
use Rattle.merkle_wire.specs.declared.session_error.TakeError.TheVariants.{Session, Tree}
use Rattle.merkle_wire.specs.Fit.{IsFit}
use Rattle.merkle_wire.specs.Next.{AsksOrGoesOn, GoesOn, HaveTwins, IsAsked, IsCame, IsEnded, IsNext, IsStopped, rounds_with, IfAsks}
use Rattle.merkle_wire.specs.Questions.{question_bytes}
use Rattle.merkle_wire.specs.Taking.{HasTakenReply}
use Rattle.merkle_wire.specs.declared.catching_up.Next.{Next}
use Rattle.merkle_wire.specs.declared.catching_up.Next.TheVariants.{Ask, Came}
use Rattle.merkle_wire.specs.Gaps.{owned_gap}
use Rattle.merkle_wire.specs.declared.question.Question.{Question}
use Rattle.merkle_wire.specs.declared.question.Question.TheVariants.{Outlines}
use Rattle.merkle_wire.specs.declared.session_error.SessionError.{SessionError}
use Rattle.merkle_wire.specs.declared.session_error.SessionError.TheVariants.{Limit, Malformed, Memory, NoNode, NotInGap, NothingCame, OtherKind, Refused, TooManyRounds, Twice}
use Rattle.merkle_wire.proofs.LeftToAsk.{some_mapped}
use Rattle.merkle_wire.specs.declared.gaps.OwnedGap.{OwnedGap}
use Rattle.std.specs.Global.{Vec}

module _ {K V H : Type 0} where
  pub is_next : (laws : Laws K V H) (n : ℕ) (encoding : K → List ℕ) (values : V → List ℕ) (local was : Side K V H) (before inside : Underway K V) (reply : List ℕ)
      (found : Found K V) (again answered : Option (Question K)) (next : Next K V)
      → was ≡ local → inside ≡ before → answered ≡ again → HasTakenReply laws n encoding values was inside.asked reply inside.found found answered
      → AsksOrGoesOn laws.cmp encoding again inside.rounds found next
      → IsNext laws n encoding values local before reply next
  is_next laws n encoding values local was before inside reply found again answered next l s a taken goes =
      subst (λ u. IsNext laws n encoding values local u reply next) s
      (subst (λ t. IsNext laws n encoding values t inside reply next) l (found, again, subst (HasTakenReply laws n encoding values was inside.asked reply inside.found found) a taken, goes))

module _ {K V : Type 0} (cmp : K → K → Ordering) where
  -- what is asked of what is found goes on with it
  pub asked_goes_on : (encoding : K → List ℕ) (question : Question K) (before after : Found K V) (rounds more : ℕ) (next : Next K V) → IsAsked encoding question after more next
      → IsAskedOf (Some question) before after → more ≡ rounds_with rounds question → GoesOn cmp encoding rounds before next
  asked_goes_on encoding question before after rounds more (Ask session message) asked of r = (
    subst (λ s. IsAskedOf (Some s.asked) before s.found) (sym asked.1) of,
    asked.0 ∙ ap (λ s. question_bytes encoding s.asked) (sym asked.1),
    ap (λ s. s.rounds) asked.1 ∙ r ∙ ap (λ s. rounds_with rounds s.asked) (sym asked.1),
  )
  asked_goes_on encoding question before after rounds more (Came rows) asked of r = absurd asked

  -- where outlines are asked for, gaps of pages below were found
  pub outlines_of_some : (most : ℕ) (gaps : Vec (OwnedGap K)) (before after : Found K V) → IsAskedOf (Some (Outlines most gaps)) before after → before.below ≢ []
  outlines_of_some most gaps before after (some, inl (is, e)) none = some_mapped owned_gap gaps.items some.0 (sym is ∙ none)
  outlines_of_some most gaps before after (some, inr (is, e)) none = some_mapped owned_gap gaps.items some.0 (sym is)

  -- where nothing is to be asked for and the rows came, it has gone on
  pub came_goes_on : (encoding : K → List ℕ) (rounds : ℕ) (before after : Found K V) (rows : List (K × V)) (next : Next K V) → IsAskedOf None before after
      → rows ≡ after.rows → IsCame cmp rows next → GoesOn cmp encoding rounds before next
  came_goes_on encoding rounds before after rows (Ask session message) done is came = absurd came
  came_goes_on encoding rounds before after rows (Came all) done is came = (subst AsksNothingMore done.1 done.0, subst (λ rs. IsCame cmp rs (Came all)) (is ∙ ap (λ f. f.rows) done.1) came)

  pub came_few : (rows : List (K × V)) (next : Next K V) → IsCame cmp rows next → IfAsks (λ session. session.rounds ≤ 256) next
  came_few rows (Ask session message) came = absurd came
  came_few rows (Came all) came = tt

  -- rows that don't come end the catch-up
  pub twice_ends : (rounds : ℕ) (before after : Found K V) (rows : List (K × V)) (error : SessionError) → IsAskedOf None before after → rows ≡ after.rows
      → (error ≡ Memory) ⊎ ((error ≡ Twice) × HaveTwins cmp rows) → IsEnded cmp rounds before error
  twice_ends rounds before after rows error done is (inl memory) = subst (IsEnded cmp rounds before) (sym memory) tt
  twice_ends rounds before after rows error done is (inr (twice, twins)) =
      subst (IsEnded cmp rounds before) (sym twice) (subst AsksNothingMore done.1 done.0, subst (HaveTwins cmp) (is ∙ ap (λ f. f.rows) done.1) twins)

module _ {K V H : Type 0} (laws : Laws K V H) (n : ℕ) (encoding : K → List ℕ) (values : V → List ℕ) (is_key : K → Type 0) (is_value : V → Type 0) (local : Side K V H)
    (before : Underway K V) (reply : List ℕ) where
  abbrev Stopped : SessionError → Type 0
  Stopped = IsStopped laws n encoding values is_key is_value local before reply

  -- a reply that is refused stops the catch-up
  pub refused_stops : (error : SessionError) → IsRefusedFor (¬ IsFit laws.cmp is_key is_value encoding values n before.asked reply) error → Stopped error
  refused_stops Memory not = tt
  refused_stops (Malformed e) not = not
  refused_stops OtherKind not = not
  refused_stops Refused not = not
  refused_stops NothingCame not = not
  refused_stops NotInGap not = not
  refused_stops NoNode not = not
  refused_stops TooManyRounds not = absurd not
  refused_stops Twice not = absurd not
  refused_stops (Limit limit) not = absurd not

  -- so does one after which it doesn't go on
  pub ended_stops : (found : Found K V) (error : SessionError) → HasTakenReply laws n encoding values local before.asked reply before.found found None
      → IsEnded laws.cmp before.rounds found error → Stopped error
  ended_stops found Memory taken ended = tt
  ended_stops found TooManyRounds taken ended = (ended.0, found, taken, ended.1)
  ended_stops found Twice taken ended = (found, taken, ended.0, ended.1)
  ended_stops found (Malformed e) taken ended = absurd ended
  ended_stops found OtherKind taken ended = absurd ended
  ended_stops found Refused taken ended = absurd ended
  ended_stops found NothingCame taken ended = absurd ended
  ended_stops found NotInGap taken ended = absurd ended
  ended_stops found NoNode taken ended = absurd ended
  ended_stops found (Limit limit) taken ended = absurd ended

-- a replica whose tree is hashed ends a catch-up as the side that it was
module _ {K V H : Type 0} (laws : Laws K V H) (n : ℕ) (encoding : K → List ℕ) (values : V → List ℕ) (is_key : K → Type 0) (is_value : V → Type 0) where
  pub is_stopped : (local was : Side K V H) (before inside : Underway K V) (reply : List ℕ) (found : Found K V) (answered : Option (Question K)) (error : SessionError)
      → was ≡ local → inside ≡ before → answered ≡ None
      → HasTakenReply laws n encoding values was inside.asked reply inside.found found answered → IsEnded laws.cmp inside.rounds found error
      → IsStopped laws n encoding values is_key is_value local before reply error
  is_stopped local was before inside reply found answered error l s a taken ended =
      subst (λ u. IsStopped laws n encoding values is_key is_value local u reply error) s
      (subst (λ t. IsStopped laws n encoding values is_key is_value t inside reply error) l
      (ended_stops laws n encoding values is_key is_value was inside reply found error (subst (HasTakenReply laws n encoding values was inside.asked reply inside.found found) a taken) ended))

  -- and so does the side that has the digests, whose reply is not taken
  pub not_taken_stops : {E : Type 0} (own : Digests K H) (before : Underway K V) (reply : List ℕ) (error : TakeError E)
      → IsNotTaken (¬ IsFit laws.cmp is_key is_value encoding values n before.asked reply) error → IsStoppedWith laws own n encoding values is_key is_value before reply error
  not_taken_stops own before reply (Session error) not = λ rows of. refused_stops laws n encoding values is_key is_value (side_of own rows) before reply error not
  not_taken_stops own before reply (Tree error) not = tt
