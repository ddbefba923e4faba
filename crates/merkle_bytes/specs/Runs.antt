-- Entries one after the other, where what stands for one rests on a state, such as the bytes of the last key before it.
use Rattle.std.specs.Prelude.{ℕ, ◌*◌, ◌≤◌, List, [], ◌∷◌, ◌++◌, length, sum_by, Option, Some, None}
use Rattle.merkle_bytes.specs.Counts.{count_bytes}
use Rattle.merkle_bytes.specs.Keys.{key_behind}
use Rattle.merkle_bytes.specs.Options.{option_bytes}

module _ {X S : Type 0} (bytes : S → X → List ℕ) (next : S → X → S) where
  -- the bytes of entries
  abbrev pub entries_bytes : S → List X → List ℕ
  entries_bytes s [] = []
  entries_bytes s (x ∷ xs) = bytes s x ++ entries_bytes (next s x) xs

  -- the state after entries
  abbrev pub state_behind : S → List X → S
  state_behind s [] = s
  state_behind s (x ∷ xs) = state_behind (next s x) xs

  -- how many entries there are, and the entries
  abbrev pub run_bytes : S → List X → List ℕ
  run_bytes s xs = count_bytes (length xs) ++ entries_bytes s xs

module _ {K : Type 0} (encoding : K → List ℕ) where
  -- a row: its key after the last one, and its value
  abbrev pub row_behind : {V : Type 0} → (V → List ℕ) → List ℕ → K × V → List ℕ
  row_behind values last row = key_behind last (encoding row.0) ++ values row.1

  abbrev pub row_key : {V : Type 0} → List ℕ → K × V → List ℕ
  row_key last row = encoding row.0

  -- a key that may be absent, after the last one
  abbrev pub bound_behind : List ℕ → Option K → List ℕ
  bound_behind last = option_bytes (λ k. key_behind last (encoding k))

  abbrev pub bound_key : List ℕ → Option K → List ℕ
  bound_key last None = last
  bound_key last (Some k) = encoding k

-- the keys of the rows have at most this many times the bytes that stand for the rows after the last key
abbrev pub KeysHaveAtMost : {K V : Type 0} → ℕ → (K → List ℕ) → (V → List ℕ) → List ℕ → List (K × V) → Type 0
KeysHaveAtMost times encoding values last rows =
    sum_by (λ row. length (encoding row.0)) rows ≤ times * length (entries_bytes (row_behind encoding values) (row_key encoding) last rows)
