-- Where bytes could not be read on, and what should have stood there.
use Rattle.std.specs.Prelude.{◌≡◌, ◌≢◌, ℕ, ◌<◌, ◌-◌, List, [], ◌++◌, length, ⊤}
use Rattle.merkle_bytes.specs.declared.error.Expected.{Expected}
use Rattle.merkle_bytes.specs.declared.error.Expected.TheVariants.{Bytes, End}
use Rattle.merkle_bytes.specs.declared.error.ReadError.{ReadError}
use Rattle.merkle_bytes.specs.declared.error.ReadError.TheVariants.{Memory, Unexpected}

-- the bytes are no such value: memory was not the reason
abbrev pub IsMalformed : ReadError → Type 0
IsMalformed Memory = ⊥
IsMalformed (Unexpected offset expected) = ⊤

-- what an error says of bytes that were not read: out of memory, or why they are no such value
abbrev pub unread : {E : Type 0} → E → (ReadError → E) → ReadError → E
unread memory malformed Memory = memory
unread memory malformed (Unexpected offset expected) = malformed (Unexpected offset expected)

-- of the rest fewer bytes are left than were expected, or more than none
abbrev pub Lacks : Expected → List ℕ → Type 0
Lacks (Bytes count) rest = length rest < count
Lacks End rest = rest ≢ []
Lacks _ rest = ⊤

-- of this many bytes in all these were left, and they were read on up to the offset, where what was expected doesn't stand
abbrev pub IsRefusal : ℕ → List ℕ → ReadError → Type 0
IsRefusal total left Memory = ⊤
IsRefusal total left (Unexpected offset expected) =
    (front : List ℕ) × (rest : List ℕ) × (left ≡ front ++ rest) × (offset ≡ total - length rest) × Lacks expected rest
