-- What bytes are over the chunks of others: which of these they have, and what stands between them.
use Rattle.std.specs.Prelude.{◌≡◌, ℕ, ◌+◌, ◌≤◌, List, [], ◌∷◌, ◌++◌, length, map, take, drop, ◌⊎◌, ⊤}
use Rattle.std.proofs.Common.{inl, inr}
use Rattle.std.specs.List.{AllByRecursion, concat, flat_map}
use Rattle.merkle_bytes.specs.Counts.{count_bytes}
use Rattle.merkle_bytes.specs.Encodings.{string_encoding}
use Rattle.merkle_delta.specs.Chunks.{checksum, chunks_of, digest_of}

-- a step: this many chunks are passed by, and this many taken after them; or other bytes come
abbrev pub Step : Type 0
Step = (ℕ × ℕ) ⊎ List ℕ

-- the bytes of a step: how many chunks are taken, and how many passed by; or a count 0, and the other bytes after their number
abbrev pub step_bytes : Step → List ℕ
step_bytes (inl run) = count_bytes run.1 ++ count_bytes run.0
step_bytes (inr bytes) = count_bytes 0 ++ string_encoding bytes

-- the chunks that are left after a step
abbrev pub chunks_after : List (List ℕ) → Step → List (List ℕ)
chunks_after chunks (inl run) = drop (run.0 + run.1) chunks
chunks_after chunks (inr bytes) = chunks

-- what a step gives
abbrev pub given_by : List (List ℕ) → Step → List ℕ
given_by chunks (inl run) = concat (take run.1 (drop run.0 chunks))
given_by chunks (inr bytes) = bytes

-- a step takes some chunks, and there are as many
abbrev pub IsStepOver : List (List ℕ) → Step → Type 0
IsStepOver chunks (inl run) = (1 ≤ run.1) × (run.0 + run.1 ≤ length chunks)
IsStepOver chunks (inr bytes) = ⊤

-- the same of steps one after the other
abbrev pub bytes_from_steps : List (List ℕ) → List Step → List ℕ
bytes_from_steps chunks [] = []
bytes_from_steps chunks (step ∷ steps) = given_by chunks step ++ bytes_from_steps (chunks_after chunks step) steps

abbrev pub AreStepsOver : List (List ℕ) → List Step → Type 0
AreStepsOver chunks [] = ⊤
AreStepsOver chunks (step ∷ steps) = IsStepOver chunks step × AreStepsOver (chunks_after chunks step) steps

-- over the chunks the delta is that of the bytes: their digest, and steps
abbrev pub IsDeltaOver : List (List ℕ) → List ℕ → List ℕ → Type 0
IsDeltaOver chunks delta bytes = (steps : List Step) × AreStepsOver chunks steps × (bytes ≡ bytes_from_steps chunks steps) × (delta ≡ digest_of bytes ++ flat_map step_bytes steps)

-- each chunk that has the checksum of one of the others is that one
abbrev pub AreToldApart : List (List ℕ) → List (List ℕ) → Type 0
AreToldApart chunks others = AllByRecursion (λ other. AllByRecursion (λ chunk. checksum chunk ≡ checksum other → chunk ≡ other) chunks) others

-- a delta begins with the digest of the bytes, and is one over any chunks with these checksums that are told apart by them from those of the bytes
abbrev pub IsDelta : List ℕ → List ℕ → List ℕ → Type 0
IsDelta checksums bytes delta = (steps : List Step) × (delta ≡ digest_of bytes ++ flat_map step_bytes steps)
    × ((chunks : List (List ℕ)) → map checksum chunks ≡ checksums → AreToldApart chunks (chunks_of bytes) → AreStepsOver chunks steps × (bytes ≡ bytes_from_steps chunks steps))

-- this many checksums from a place on are those of the chunks from another on
abbrev pub HaveChecksums : List ℕ → List (List ℕ) → ℕ → ℕ → ℕ → Type 0
HaveChecksums checksums chunks from done len = (from + len ≤ length checksums) × (done + len ≤ length chunks) × (take len (drop from checksums) ≡ map checksum (take len (drop done chunks)))

-- steps are added that give the chunks, over any that have these checksums and are told apart by them
abbrev pub AddsSteps : List ℕ → List (List ℕ) → List ℕ → List ℕ → Type 0
AddsSteps checksums chunks old new = (steps : List Step) × (new ≡ old ++ flat_map step_bytes steps)
    × ((own : List (List ℕ)) → map checksum own ≡ checksums → AreToldApart own chunks → AreStepsOver own steps × (concat chunks ≡ bytes_from_steps own steps))

-- a step was read, and what it gives was added: these chunks are after it, and these bytes are left
abbrev pub IsStepTaken : List (List ℕ) → List ℕ → List ℕ → List (List ℕ) → List ℕ → List ℕ → Type 0
IsStepTaken chunks left given behind left' given' = (step : Step) × IsStepOver chunks step × (left ≡ step_bytes step ++ left')
    × (given' ≡ given ++ given_by chunks step) × (behind ≡ chunks_after chunks step)
