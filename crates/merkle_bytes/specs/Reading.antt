-- What stands at the front of bytes, and what is read from there.
use Rattle.std.specs.Prelude.{◌≡◌, ◌≢◌, ℕ, ◌<◌, ◌^◌, List, ◌++◌, Option, MatchOption}
use Rattle.std.specs.Borrow.{Bor}
use Rattle.std.specs.List.{AllByRecursion}
use Rattle.merkle_bytes.specs.Keys.{front_bytes}
use Rattle.merkle_bytes.specs.Refusals.{IsMalformed}
use Rattle.merkle_bytes.specs.declared.error.ReadError.{ReadError}
use Rattle.merkle_bytes.specs.declared.reader.Reader.{Reader}

-- these bytes stood at the front, and those after them are left
abbrev pub Reads : Reader → List ℕ → Reader → Type 0
Reads old bytes new = old.left.now ≡ bytes ++ new.left.now

module _ {X : Type 0} (encoding : X → List ℕ) where
  -- the bytes begin with those of no value
  abbrev pub BeginsWithNone : List ℕ → Type 0
  BeginsWithNone bytes = (x : X) (rest : List ℕ) → bytes ≢ encoding x ++ rest

  -- bytes that begin with those of a value tell it, up to E, and where they end
  abbrev pub BytesTell : (X → X → Type 0) → Type 0
  BytesTell E = (x y : X) (r s : List ℕ) → encoding x ++ r ≡ encoding y ++ s → E x y × (r ≡ s)

  module _ (IsSuch : X → Type 0) where
    -- the bytes begin with those of no value that is such
    abbrev pub BeginsWithNo : List ℕ → Type 0
    BeginsWithNo bytes = (x : X) (rest : List ℕ) → IsSuch x → bytes ≢ encoding x ++ rest

    -- a value and the bytes after it, or none where the bytes begin with those of no value that is such
    abbrev pub SplitsOff : List ℕ → Option (X × Bor (List ℕ)) → Type 0
    SplitsOff bytes result = MatchOption result (BeginsWithNo bytes) (λ found. bytes ≡ encoding found.0 ++ found.1.now)

-- they begin with those of no two counts below 2 ^ 64, as a key has them
abbrev pub BeginsWithNoFront : List ℕ → Type 0
BeginsWithNoFront bytes = (kept more : ℕ) (rest : List ℕ) → kept < 2 ^ 64 → more < 2 ^ 64 → bytes ≢ front_bytes kept more ++ rest

-- unless memory was the reason, the reader stood before the bytes of no value
abbrev pub FindsNone : {X : Type 0} → (X → List ℕ) → Reader → ReadError → Type 0
FindsNone encoding reader error = IsMalformed error → BeginsWithNone encoding reader.left.now

-- unless memory was the reason, it stood before the bytes of no value that is such
abbrev pub FindsNo : {X : Type 0} → (X → List ℕ) → (X → Type 0) → Reader → ReadError → Type 0
FindsNo encoding IsSuch reader error = IsMalformed error → BeginsWithNo encoding IsSuch reader.left.now

-- or of no list of such values
abbrev pub FindsNoList : {X : Type 0} → (List X → List ℕ) → (X → Type 0) → Reader → ReadError → Type 0
FindsNoList encoding IsSuch = FindsNo encoding (AllByRecursion IsSuch)
