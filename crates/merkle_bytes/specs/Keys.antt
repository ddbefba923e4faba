-- A key after another: how many bytes it begins with as that does, how many more it has, and these.
use Rattle.std.specs.Prelude.{◌≢◌, ℕ, suc, ◌+◌, ◌-◌, ◌*◌, ◌≤◌, ⊤, Bool, ◌&&◌, ◌==◌, nat_lt, List, [], ◌∷◌, ◌++◌, length, take, drop, if◌then◌else◌}
use Rattle.merkle_bytes.specs.Counts.{count_bytes}

-- how many bytes both begin with
abbrev pub shared : List ℕ → List ℕ → ℕ
shared [] ys = 0
shared (x ∷ xs) [] = 0
shared (x ∷ xs) (y ∷ ys) = if (x == y) then (suc (shared xs ys)) else 0

-- one of them ends, or their first bytes differ
abbrev pub GoOnApart : List ℕ → List ℕ → Type 0
GoOnApart [] ys = ⊤
GoOnApart (x ∷ xs) [] = ⊤
GoOnApart (x ∷ xs) (y ∷ ys) = x ≢ y

-- both counts are small enough for one byte
abbrev pub fit_a_byte : ℕ → ℕ → Bool
fit_a_byte kept more = nat_lt kept 15 && nat_lt more 16

-- how many bytes are kept of the key before, and how many more there are: one byte where both are few, else a byte 240 and two counts
unfoldable pub front_bytes : ℕ → ℕ → List ℕ
front_bytes kept more = if (fit_a_byte kept more) then ((16 * kept + more) ∷ []) else (240 ∷ (count_bytes kept ++ count_bytes more))

-- the part of a key that the next one may share: its first 255 bytes
unfoldable pub shareable : List ℕ → List ℕ
shareable key = take 255 key

-- how many bytes a key keeps of the one before: those that both begin with, of the part that may be shared
abbrev pub kept_of : List ℕ → List ℕ → ℕ
kept_of last key = shared (shareable last) key

-- what stands for a key with these bytes, after a key with the bytes `last`
unfoldable pub key_behind : List ℕ → List ℕ → List ℕ
key_behind last key = front_bytes (kept_of last key) (length key - kept_of last key) ++ drop (kept_of last key) key
