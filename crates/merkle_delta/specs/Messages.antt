-- Messages that tell checksums, and replies that are deltas.
use Rattle.std.specs.Prelude.{◌≡◌, ◌≢◌, ℕ, List, ◌∷◌, ◌++◌, Option, Some, None}
use Rattle.std.specs.Global.{Vec}
use Rattle.merkle_bytes.specs.Counts.{count_bytes}
use Rattle.merkle_bytes.specs.Encodings.{list_bytes}
use Rattle.merkle_delta.specs.Deltas.{IsDelta, IsDeltaOver}

-- a question after checksums: version 1, kind 6
abbrev pub asking_bytes : List ℕ → List ℕ → List ℕ
asking_bytes checksums question = 1 ∷ 6 ∷ (list_bytes count_bytes checksums ++ question)

-- the bytes don't begin as a message with checksums
abbrev pub IsPlain : List ℕ → Type 0
IsPlain message = (rest : List ℕ) → message ≢ 1 ∷ 6 ∷ rest

-- the message asks a question: alone, or after checksums
abbrev pub AsksQuestion : Option (Vec ℕ) → List ℕ → List ℕ → Type 0
AsksQuestion None question message = (message ≡ question) × IsPlain message
AsksQuestion (Some checksums) question message = message ≡ asking_bytes checksums.items question

-- the reply is a plain one, or tells it as its delta for the checksums: version 1, kind 134
abbrev pub IsToldFor : Option (Vec ℕ) → List ℕ → List ℕ → Type 0
IsToldFor None plain reply = reply ≡ plain
IsToldFor (Some checksums) plain reply = (delta : List ℕ) × (reply ≡ 1 ∷ 134 ∷ delta) × IsDelta checksums.items plain delta

-- the reply is the delta of a plain one over these chunks
abbrev pub IsReplyOver : List (List ℕ) → List ℕ → List ℕ → Type 0
IsReplyOver own reply plain = (delta : List ℕ) × (reply ≡ 1 ∷ 134 ∷ delta) × IsDeltaOver own delta plain
