-- The steps of a delta are read one after the other, in one way.
use Rattle.std.proofs.Common.{◌≡◌, ◌≢◌, ℕ, ◌<◌, ◌≤◌, List, [], ◌∷◌, ◌++◌, length, refl, sym, ap, ap₂, subst, ◌∙◌, arith}
use Rattle.std.specs.List.{flat_map}
use Rattle.std.proofs.lemmas.List.{append_assoc, append-nil, length-append, flat_map_more}
use Rattle.key_order.proofs.ListParts.{join_tells}
use Rattle.merkle_digest.specs.SipHash.{siphash128, output}
use Rattle.merkle_delta.specs.Chunks.{digest_of}
use Rattle.merkle_delta.specs.Deltas.{IsDeltaOver, Step, step_bytes, given_by, chunks_after, bytes_from_steps, IsStepOver, AreStepsOver, IsStepTaken}
use Rattle.merkle_delta.proofs.Stepping.{left_behind, over-more, patched-more, left-more, step-some, step_told, steps_told}
use Rattle.merkle_bytes.specs.Reading.{BeginsWithNo}

-- a digest has 16 bytes
pub digest_length : (bytes : List ℕ) → length (digest_of bytes) ≡ 16
unfolding siphash128 output
digest_length bytes = refl

-- no bytes are none
pub no_bytes : (bytes : List ℕ) → length bytes ≡ 0 → bytes ≡ []
no_bytes [] e = refl
no_bytes (b ∷ bs) e = absurd (omega (arith, e))

module _ (own : List (List ℕ)) (whole : List ℕ) where
  -- some steps were read, and any that the whole is are these and others
  pub record AreTaken (chunks : List (List ℕ)) (left given : List ℕ) : Type 0 where
    pub steps : List Step
    pub over : AreStepsOver own steps
    pub read : whole ≡ flat_map step_bytes steps ++ left
    pub gives : given ≡ bytes_from_steps own steps
    pub behind : chunks ≡ left_behind own steps
    pub rest : (all : List Step) → AreStepsOver own all → whole ≡ flat_map step_bytes all
        → (others : List Step) × AreStepsOver chunks others × (left ≡ flat_map step_bytes others) × (bytes_from_steps own all ≡ given ++ bytes_from_steps chunks others)

  pub none_taken : AreTaken own whole []
  none_taken = record {
    steps = [];
    over = tt;
    read = refl;
    gives = refl;
    behind = refl;
    rest = λ all over e. (all, over, e, refl);
  }

  pub one_taken : (chunks behind : List (List ℕ)) (left left' given given' : List ℕ) → AreTaken chunks left given → IsStepTaken chunks left given behind left' given' → AreTaken behind left' given'
  one_taken chunks behind left left' given given' so (step, is, now, put, goes) = record {
    steps = so.steps ++ step ∷ [];
    over = over-more own so.steps step so.over (subst (λ c. IsStepOver c step) so.behind is);
    read = so.read ∙ ap (λ t. flat_map step_bytes so.steps ++ t) now ∙ sym (append_assoc (flat_map step_bytes so.steps) (step_bytes step) left')
        ∙ ap (λ t. t ++ left') (flat_map_more step_bytes [] so.steps step);
    gives = put ∙ ap₂ (λ t c. t ++ given_by c step) so.gives so.behind ∙ sym (patched-more own so.steps step);
    behind = goes ∙ ap (λ c. chunks_after c step) so.behind ∙ sym (left-more own so.steps step);
    rest = λ all over e. let b = so.rest all over e in after b.0 b.1 b.2 b.3;
  }
    where
      after : {all : List ℕ} (others : List Step) → AreStepsOver chunks others → left ≡ flat_map step_bytes others → all ≡ given ++ bytes_from_steps chunks others
          → (more : List Step) × AreStepsOver behind more × (left' ≡ flat_map step_bytes more) × (all ≡ given' ++ bytes_from_steps behind more)
      after [] over e gives = absurd (omega (arith, step-some step, ap length (sym now ∙ e), length-append (step_bytes step) left'))
      after (s ∷ ss) over e gives =
          let both = step_told chunks step s left' (flat_map step_bytes ss) is over.0 (sym now ∙ e) in
          let same = sym both.0 in
          let place : chunks_after chunks s ≡ behind = ap (chunks_after chunks) same ∙ sym goes in (
            ss,
            subst (λ c. AreStepsOver c ss) place over.1,
            both.1,
            gives ∙ ap₂ (λ t c. given ++ (given_by chunks t ++ bytes_from_steps c ss)) same place
                ∙ sym (append_assoc given (given_by chunks step) (bytes_from_steps behind ss)) ∙ ap (λ t. t ++ bytes_from_steps behind ss) (sym put),
          )

  -- where nothing is left, all are taken
  pub all_taken : (chunks : List (List ℕ)) (left given : List ℕ) → AreTaken chunks left given → left ≡ []
      → IsDeltaOver own (digest_of given ++ whole) given
  all_taken chunks left given so none =
      (so.steps, so.over, so.gives, ap (λ t. digest_of given ++ t) (so.read ∙ ap (λ t. flat_map step_bytes so.steps ++ t) none ∙ append-nil (flat_map step_bytes so.steps)))

  -- where something is left that is no step, the whole is no steps
  pub none_left : (chunks : List (List ℕ)) (left given : List ℕ) → AreTaken chunks left given → left ≢ [] → BeginsWithNo step_bytes (IsStepOver chunks) left → (all : List Step)
      → AreStepsOver own all → whole ≢ flat_map step_bytes all
  none_left chunks left given so some none = λ all over e. let b = so.rest all over e in first b.0 b.1 b.2
    where
      first : (others : List Step) → AreStepsOver chunks others → left ≡ flat_map step_bytes others → ⊥
      first [] over e = some e
      first (s ∷ ss) over e = none s (flat_map step_bytes ss) over.0 e

-- a step leaves fewer bytes
pub fewer_left : (chunks behind : List (List ℕ)) (left left' given given' : List ℕ) → IsStepTaken chunks left given behind left' given' → length left' < length left
fewer_left chunks behind left left' given given' (step, is, now, put, goes) = omega (arith, step-some step, ap length now, length-append (step_bytes step) left')

module _ (own : List (List ℕ)) (whole bytes : List ℕ) where
  -- a delta has as many bytes as its digest
  pub delta_long : IsDeltaOver own whole bytes → 16 ≤ length whole
  delta_long (steps, over, gives, is) = omega (arith, ap length is, length-append (digest_of bytes) (flat_map step_bytes steps), digest_length bytes)

  -- after the digest stand its steps
  pub delta_parts : (digest left : List ℕ) → whole ≡ digest ++ left → length digest ≡ 16 → IsDeltaOver own whole bytes
      → (digest ≡ digest_of bytes) × ((steps : List Step) × AreStepsOver own steps × (bytes ≡ bytes_from_steps own steps) × (left ≡ flat_map step_bytes steps))
  delta_parts digest left read long (steps, over, gives, is) =
      let told = join_tells digest (digest_of bytes) left (flat_map step_bytes steps) (long ∙ sym (digest_length bytes)) (sym read ∙ is) in
      (told.0, (steps, over, gives, told.1))

  -- where no steps do, it is none
  pub no_delta : (digest left : List ℕ) → whole ≡ digest ++ left → length digest ≡ 16 → ((steps : List Step) → AreStepsOver own steps → left ≢ flat_map step_bytes steps)
      → ¬ IsDeltaOver own whole bytes
  no_delta digest left read long none over = let (same, (steps, are, gives, is)) = delta_parts digest left read long over in none steps are is

  -- nor is it where they give bytes with another digest
  pub other_digest : (digest left given : List ℕ) → whole ≡ digest ++ left → length digest ≡ 16
      → IsDeltaOver own (digest_of given ++ left) given → digest_of given ≢ digest → ¬ IsDeltaOver own whole bytes
  other_digest digest left given read long (others, over_own, gave, begins) other over =
      let (same, (steps, are, gives, is)) = delta_parts digest left read long over in
      let told = (join_tells (digest_of given) (digest_of given) left (flat_map step_bytes others) refl begins).1 in
      other (ap digest_of (gave ∙ ap (bytes_from_steps own) (steps_told own others steps over_own are (sym told ∙ is)) ∙ sym gives) ∙ sym same)

-- over the same chunks a delta is that of one byte string
pub delta_alone : (own : List (List ℕ)) (whole a b : List ℕ) → IsDeltaOver own whole a → IsDeltaOver own whole b → a ≡ b
delta_alone own whole a b (steps, over, gives, is) (others, are, gave, was) =
    let told = join_tells (digest_of a) (digest_of b) (flat_map step_bytes steps) (flat_map step_bytes others) (digest_length a ∙ sym (digest_length b)) (sym is ∙ was) in
    gives ∙ ap (bytes_from_steps own) (steps_told own steps others over are told.1) ∙ sym gave
