-- What is made of what came by digests alone, whatever rows these are the digests of.
use Rattle.std.specs.Prelude.{ℕ, List, Option, ⊤}
use Rattle.std.specs.Global.{Vec}
use Rattle.merkle_replica.specs.Laws.{Laws}
use Rattle.merkle_tree_theory.specs.Gap.{Gap}
use Rattle.merkle_wire.specs.Coming.{OutlinesCome}
use Rattle.merkle_wire.specs.ItsRows.{Digests, ForRowsOf}
use Rattle.merkle_wire.specs.Next.{IsStopped}
use Rattle.merkle_wire.specs.Outlines.{Outline}
use Rattle.merkle_wire.specs.Steps.{AddsGaps, below_keys, digests_beside}
use Rattle.merkle_wire.specs.Taking.{AreNewGaps, AreTaken, HasTakenReply, IsPageTaken}
use Rattle.merkle_wire.specs.Underway.{Found, Underway}
use Rattle.merkle_wire.specs.declared.gaps.OwnedGap.{OwnedGap}
use Rattle.merkle_wire.specs.declared.message.Kind.{Kind}
use Rattle.merkle_wire.specs.declared.question.Question.{Question}
use Rattle.merkle_wire.specs.declared.session_error.TakeError.{TakeError}
use Rattle.merkle_wire.specs.declared.session_error.TakeError.TheVariants.{Session, Tree}
use Rattle.merkle_wire.specs.declared.wanted.Wanted.{Wanted}

module _ {K V H : Type 0} (laws : Laws K V H) (own : Digests K H) where
  -- what was told of the page over a gap is taken
  abbrev pub TakesPage : Gap K → Outline K V → Found K V → Found K V → Type 0
  TakesPage gap told before after = ForRowsOf laws own (λ local. IsPageTaken laws local gap told before after)

  -- keys part a gap, or leave it whole where there are none: those of its parts are added over which there is a page, if the side has no page with its digest
  abbrev pub AddsNewGapsBeside : Gap K → List (Option (List ℕ) × Wanted K) → Option (List ℕ) → Found K V → Found K V → Type 0
  AddsNewGapsBeside gap below last before after = ForRowsOf laws own (λ local. AddsGaps (AreNewGaps laws local gap (below_keys below) (digests_beside below last)) before after)

  -- outlines of the pages over the first of the gaps came with a reply, and each is taken; `left` are the other gaps
  abbrev pub TakesOutlines : ℕ → (K → List ℕ) → (V → List ℕ) → Kind → List (OwnedGap K) → List ℕ → Found K V → Found K V → Vec (OwnedGap K) → Type 0
  TakesOutlines n encoding values kind gaps reply before after left =
      ForRowsOf laws own (λ local. OutlinesCome laws.cmp encoding values n kind (λ told. AreTaken laws local told before after) gaps reply left.items)

  -- a reply to a question is taken, and this of the question is to be asked again
  abbrev pub TakesReply : ℕ → (K → List ℕ) → (V → List ℕ) → Question K → List ℕ → Found K V → Found K V → Option (Question K) → Type 0
  TakesReply n encoding values asked reply before after again = ForRowsOf laws own (λ local. HasTakenReply laws n encoding values local asked reply before after again)

  -- a reply is not taken for such a reason as a replica has, or the tree can't be read
  abbrev pub IsStoppedWith : {E : Type 0} → ℕ → (K → List ℕ) → (V → List ℕ) → (K → Type 0) → (V → Type 0) → Underway K V → List ℕ → TakeError E → Type 0
  IsStoppedWith n encoding values is_key is_value before reply (Session error) = ForRowsOf laws own (λ local. IsStopped laws n encoding values is_key is_value local before reply error)
  IsStoppedWith n encoding values is_key is_value before reply (Tree error) = ⊤
