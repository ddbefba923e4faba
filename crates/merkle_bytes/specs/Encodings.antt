-- Byte strings and lists as bytes.
use Rattle.std.specs.Prelude.{◌≡◌, ℕ, Bool, cond, List, [], ◌∷◌, ◌++◌, length}
use Rattle.std.specs.Global.{Vec}
use Rattle.std.specs.List.{flat_map}
use Rattle.merkle_bytes.specs.Counts.{count_bytes}

-- these bytes were added after those that were there
abbrev pub AddsBytes : Vec ℕ → List ℕ → Vec ℕ → Type 0
AddsBytes old bytes new = new.items ≡ old.items ++ bytes

-- a byte 1 for true, and 0 for false
abbrev pub flag_bytes : Bool → List ℕ
flag_bytes flag = cond flag 1 0 ∷ []

-- bytes, as many as there are: their count, and the bytes
abbrev pub string_encoding : List ℕ → List ℕ
string_encoding bytes = count_bytes (length bytes) ++ bytes

-- a list: how many entries it has, and the entries
abbrev pub list_bytes : {X : Type 0} → (X → List ℕ) → List X → List ℕ
list_bytes encoding xs = count_bytes (length xs) ++ flat_map encoding xs
