-- Hash keys as words.
use Rattle.std.specs.Prelude.{◌≡◌, List, ℕ, length}
use Rattle.std.specs.Int.{w128, to_be_bytes}
use Rattle.std.specs.Str.Parse.{IsNumeral, digits_value}

-- the word is a key in 32 hexadecimal digits: the number that they write has the key's bytes, the highest first
abbrev pub IsHashKey : List ℕ → List ℕ → Type 0
IsHashKey word key = (length word ≡ 32) × IsNumeral 16 word × (key ≡ to_be_bytes w128 (digits_value 16 word))
