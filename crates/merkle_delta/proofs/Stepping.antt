-- Steps one after the other, and that their bytes tell them.
use Rattle.std.proofs.Common.{◌≡◌, ◌≢◌, ℕ, ◌+◌, ◌<◌, ◌≤◌, ◌^◌, List, [], ◌∷◌, ◌++◌, length, take, drop, inl, inr, refl, sym, ap, ap₂, subst, ◌∙◌, arith}
use Rattle.std.specs.List.{concat, flat_map}
use Rattle.std.proofs.lemmas.List.{append_assoc, append-nil, drop-drop, length-append, take-append-drop}
use Rattle.key_order.proofs.ListParts.{join_tells}
use Rattle.merkle_bytes.specs.Counts.{count_bytes, count_some, count_told}
use Rattle.merkle_bytes.specs.Encodings.{string_encoding}
use Rattle.merkle_bytes.specs.Refusals.{IsMalformed, unread}
use Rattle.merkle_bytes.specs.declared.error.ReadError.{ReadError}
use Rattle.merkle_bytes.specs.declared.error.ReadError.TheVariants as read
use Rattle.merkle_delta.specs.Deltas.{IsStepTaken, Step, step_bytes, chunks_after, given_by, IsStepOver, bytes_from_steps, AreStepsOver}
use Rattle.merkle_delta.specs.declared.patch.PatchError.TheVariants.{Memory, Unlike}
use Rattle.merkle_bytes.specs.Reading.{BeginsWithNo}

-- bytes are no delta only where they are malformed
pub malformed_of : (error : ReadError) → unread Memory (λ _. Unlike) error ≡ Unlike → IsMalformed error
malformed_of read.Memory e = absurd cc
malformed_of (read.Unexpected offset expected) e = tt

-- one chunk more after others
pub concat-more : (xs : List (List ℕ)) (x : List ℕ) → concat (xs ++ x ∷ []) ≡ concat xs ++ x
concat-more [] x = append-nil x
concat-more (y ∷ ys) x = ap (λ t. y ++ t) (concat-more ys x) ∙ sym (append_assoc y (concat ys) x)

pub concat-append : (xs ys : List (List ℕ)) → concat (xs ++ ys) ≡ concat xs ++ concat ys
concat-append [] ys = refl
concat-append (x ∷ xs) ys = ap (λ t. x ++ t) (concat-append xs ys) ∙ sym (append_assoc x (concat xs) (concat ys))

-- the chunks that are left after steps
abbrev pub left_behind : List (List ℕ) → List Step → List (List ℕ)
left_behind chunks [] = chunks
left_behind chunks (step ∷ steps) = left_behind (chunks_after chunks step) steps

-- one step more after others
pub over-more : (chunks : List (List ℕ)) (steps : List Step) (step : Step) → AreStepsOver chunks steps → IsStepOver (left_behind chunks steps) step → AreStepsOver chunks (steps ++ step ∷ [])
over-more chunks [] step over is = (is, tt)
over-more chunks (s ∷ ss) step over is = (over.0, over-more (chunks_after chunks s) ss step over.1 is)

pub patched-more : (chunks : List (List ℕ)) (steps : List Step) (step : Step) → bytes_from_steps chunks (steps ++ step ∷ []) ≡ bytes_from_steps chunks steps ++ given_by (left_behind chunks steps) step
patched-more chunks [] step = append-nil (given_by chunks step)
patched-more chunks (s ∷ ss) step =
    ap (λ t. given_by chunks s ++ t) (patched-more (chunks_after chunks s) ss step)
    ∙ sym (append_assoc (given_by chunks s) (bytes_from_steps (chunks_after chunks s) ss) (given_by (left_behind (chunks_after chunks s) ss) step))

pub left-more : (chunks : List (List ℕ)) (steps : List Step) (step : Step) → left_behind chunks (steps ++ step ∷ []) ≡ chunks_after (left_behind chunks steps) step
left-more chunks [] step = refl
left-more chunks (s ∷ ss) step = left-more (chunks_after chunks s) ss step

-- a step has a byte
pub step-some : (step : Step) → 1 ≤ length (step_bytes step)
step-some (inl run) = omega (arith, count_some run.1, length-append (count_bytes run.1) (count_bytes run.0))
step-some (inr bytes) = omega (arith, count_some 0, length-append (count_bytes 0) (string_encoding bytes))

-- bytes that begin with those of a step over chunks tell it, and what is after it
pub step_told : (chunks : List (List ℕ)) (s t : Step) (r u : List ℕ) → IsStepOver chunks s → IsStepOver chunks t → step_bytes s ++ r ≡ step_bytes t ++ u → (s ≡ t) × (r ≡ u)
step_told chunks (inl a) (inl b) r u is was e =
    let first = count_told a.1 b.1 (count_bytes a.0 ++ r) (count_bytes b.0 ++ u)
    (sym (append_assoc (count_bytes a.1) (count_bytes a.0) r) ∙ e ∙ append_assoc (count_bytes b.1) (count_bytes b.0) u) in
    let rest = count_told a.0 b.0 r u first.1 in
    (ap₂ (λ x y. inl (x, y)) rest.0 first.0, rest.1)
step_told chunks (inl a) (inr b) r u is was e =
    let first = count_told a.1 0 (count_bytes a.0 ++ r) (string_encoding b ++ u)
    (sym (append_assoc (count_bytes a.1) (count_bytes a.0) r) ∙ e ∙ append_assoc (count_bytes 0) (string_encoding b) u) in
    absurd (omega (arith, first.0, is.0))
step_told chunks (inr a) (inl b) r u is was e =
    let first = count_told 0 b.1 (string_encoding a ++ r) (count_bytes b.0 ++ u)
    (sym (append_assoc (count_bytes 0) (string_encoding a) r) ∙ e ∙ append_assoc (count_bytes b.1) (count_bytes b.0) u) in
    absurd (omega (arith, first.0, was.0))
step_told chunks (inr a) (inr b) r u is was e =
    let first = count_told 0 0 (string_encoding a ++ r) (string_encoding b ++ u)
    (sym (append_assoc (count_bytes 0) (string_encoding a) r) ∙ e ∙ append_assoc (count_bytes 0) (string_encoding b) u) in
    let heads = count_told (length a) (length b) (a ++ r) (b ++ u)
    (sym (append_assoc (count_bytes (length a)) a r) ∙ first.1 ∙ append_assoc (count_bytes (length b)) b u) in
    let rest = join_tells a b r u heads.0 heads.1 in
    (ap inr rest.0, rest.1)

-- bytes are the steps over chunks in one way
pub steps_told : (chunks : List (List ℕ)) (ss ts : List Step) → AreStepsOver chunks ss → AreStepsOver chunks ts → flat_map step_bytes ss ≡ flat_map step_bytes ts → ss ≡ ts
steps_told chunks [] [] over are e = refl
steps_told chunks [] (t ∷ ts) over are e = absurd (omega (arith, ap length e, step-some t, length-append (step_bytes t) (flat_map step_bytes ts)))
steps_told chunks (s ∷ ss) [] over are e = absurd (omega (arith, ap length e, step-some s, length-append (step_bytes s) (flat_map step_bytes ss)))
steps_told chunks (s ∷ ss) (t ∷ ts) over are e =
    let first = step_told chunks s t (flat_map step_bytes ss) (flat_map step_bytes ts) over.0 are.0 e in
    ap₂ (λ x xs. x ∷ xs) first.0 (steps_told (chunks_after chunks s) ss ts over.1 (subst (λ x. AreStepsOver (chunks_after chunks x) ts) (sym first.0) are.1) first.1)

-- of chunks that are passed by or taken the others are left
run_long : (chunks : List (List ℕ)) (passed taken : ℕ) → length (concat (take taken (drop passed chunks))) + length (concat (drop (passed + taken) chunks)) ≤ length (concat chunks)
run_long chunks passed taken =
    let behind = drop passed chunks in
    let place : drop (passed + taken) chunks ≡ drop taken behind = sym (drop-drop taken passed chunks) in
    omega (arith, ap (λ xs. length (concat xs)) place, parts_long taken behind, parts_long passed chunks)
  where
    parts_long : (n : ℕ) (xs : List (List ℕ)) → length (concat (take n xs)) + length (concat (drop n xs)) ≡ length (concat xs)
    parts_long n xs = sym (length-append (concat (take n xs)) (concat (drop n xs))) ∙ ap length (sym (concat-append (take n xs) (drop n xs)) ∙ ap concat (take-append-drop n xs))

-- steps give at most as many bytes as the chunks have, and their own
pub patched-long : (chunks : List (List ℕ)) (steps : List Step) → length (bytes_from_steps chunks steps) ≤ length (concat chunks) + length (flat_map step_bytes steps)
patched-long chunks [] = omega arith
patched-long chunks (inl run ∷ steps) =
    let taken = concat (take run.1 (drop run.0 chunks)) in
    let left = drop (run.0 + run.1) chunks in
    omega (
      arith,
      length-append taken (bytes_from_steps left steps),
      length-append (count_bytes run.1 ++ count_bytes run.0)
          (flat_map step_bytes steps),
      run_long chunks run.0 run.1,
      patched-long left steps,
    )
patched-long chunks (inr bytes ∷ steps) =
    omega (
      arith,
      length-append bytes (bytes_from_steps chunks steps),
      length-append (count_bytes 0 ++ string_encoding bytes) (flat_map step_bytes steps),
      length-append (count_bytes 0) (string_encoding bytes),
      length-append (count_bytes (length bytes)) bytes,
      patched-long chunks steps,
    )

module _ (chunks : List (List ℕ)) where
  -- where no count stands, no step does
  pub no_count : (left : List ℕ) → length chunks < 2 ^ 64 → ((count : ℕ) (rest : List ℕ) → count < 2 ^ 64 → left ≢ count_bytes count ++ rest) → BeginsWithNo step_bytes (IsStepOver chunks) left
  no_count left fits none (inl run) rest is e =
      none run.1 (count_bytes run.0 ++ rest) (omega (arith, fits, is.1)) (e ∙ append_assoc (count_bytes run.1) (count_bytes run.0) rest)
  no_count left fits none (inr bytes) rest is e = none 0 (string_encoding bytes ++ rest) (omega arith) (e ∙ append_assoc (count_bytes 0) (string_encoding bytes) rest)

  -- nor where no byte string stands after a count 0
  pub no_bytes : (left behind : List ℕ) → left ≡ count_bytes 0 ++ behind → ((bytes rest : List ℕ) → behind ≢ string_encoding bytes ++ rest) → BeginsWithNo step_bytes (IsStepOver chunks) left
  no_bytes left behind was none (inl run) rest is e =
      let told = count_told 0 run.1 behind (count_bytes run.0 ++ rest) (sym was ∙ e ∙ append_assoc (count_bytes run.1) (count_bytes run.0) rest) in absurd (omega (arith, told.0, is.0))
  no_bytes left behind was none (inr bytes) rest is e =
      none bytes rest (count_told 0 0 behind (string_encoding bytes ++ rest) (sym was ∙ e ∙ append_assoc (count_bytes 0) (string_encoding bytes) rest)).1

  -- nor where none stands after another count
  pub no_passed : (left behind : List ℕ) (taken : ℕ) → left ≡ count_bytes taken ++ behind → 1 ≤ taken → length chunks < 2 ^ 64
      → ((count : ℕ) (rest : List ℕ) → count < 2 ^ 64 → behind ≢ count_bytes count ++ rest) → BeginsWithNo step_bytes (IsStepOver chunks) left
  no_passed left behind taken was some fits none (inl run) rest is e =
      let told = count_told taken run.1 behind (count_bytes run.0 ++ rest) (sym was ∙ e ∙ append_assoc (count_bytes run.1) (count_bytes run.0) rest) in
      none run.0 rest (omega (arith, fits, is.1)) told.1
  no_passed left behind taken was some fits none (inr bytes) rest is e =
      let told = count_told taken 0 behind (string_encoding bytes ++ rest) (sym was ∙ e ∙ append_assoc (count_bytes 0) (string_encoding bytes) rest) in absurd (omega (arith, told.0, some))

  -- nor where more chunks are passed by and taken than there are
  pub no_run : (left behind end : List ℕ) (taken passed : ℕ) → left ≡ count_bytes taken ++ behind → behind ≡ count_bytes passed ++ end → 1 ≤ taken → length chunks < passed + taken
      → BeginsWithNo step_bytes (IsStepOver chunks) left
  no_run left behind end taken passed was then some many (inl run) rest is e =
      let told = count_told taken run.1 behind (count_bytes run.0 ++ rest) (sym was ∙ e ∙ append_assoc (count_bytes run.1) (count_bytes run.0) rest) in
      let more = count_told passed run.0 end rest (sym then ∙ told.1) in absurd (omega (arith, told.0, more.0, many, is.1))
  no_run left behind end taken passed was then some many (inr bytes) rest is e =
      let told = count_told taken 0 behind (string_encoding bytes ++ rest) (sym was ∙ e ∙ append_assoc (count_bytes 0) (string_encoding bytes) rest) in absurd (omega (arith, told.0, some))

  -- a step of bytes was taken
  pub bytes_taken : (left behind left' old new bytes : List ℕ) → left ≡ count_bytes 0 ++ behind → behind ≡ string_encoding bytes ++ left' → new ≡ old ++ bytes
      → IsStepTaken chunks left old chunks left' new
  bytes_taken left behind left' old new bytes was then put =
      (inr bytes, tt, was ∙ ap (λ t. count_bytes 0 ++ t) then ∙ sym (append_assoc (count_bytes 0) (string_encoding bytes) left'), put, refl)

  -- or a run
  pub run_taken : (left behind left' old new : List ℕ) (taken passed : ℕ) → left ≡ count_bytes taken ++ behind → behind ≡ count_bytes passed ++ left' → 1 ≤ taken
      → passed + taken ≤ length chunks → new ≡ old ++ concat (take taken (drop passed chunks)) → IsStepTaken chunks left old (drop (passed + taken) chunks) left' new
  run_taken left behind left' old new taken passed was then some few put = (
    inl (passed, taken),
    (some, few),
    was ∙ ap (λ t. count_bytes taken ++ t) then ∙ sym (append_assoc (count_bytes taken) (count_bytes passed) left'),
    put,
    refl,
  )
