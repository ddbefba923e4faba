-- Spans of time as words.
use Rattle.std.specs.Prelude.{◌≡◌, ◌*◌, ◌^◌, ◌<◌, ◌==◌, ℕ, List, [], ◌∷◌, ◌++◌, Option, Some, None, if◌then◌else◌}
use Rattle.std.specs.Str.Parse.{IsNumeral, digits_value, without_leading_plus}

-- the milliseconds of the unit that a letter stands for: s, m, h or d
abbrev pub unit_of : ℕ → Option ℕ
unit_of letter =
    if letter == 115 then Some 1000 else if letter == 109 then Some 60000 else if letter == 104 then Some 3600000 else if letter == 100 then Some 86400000 else None

-- the word is this text, and after it the letter of a unit of this many milliseconds
abbrev pub HasUnit : List ℕ → List ℕ → ℕ → Type 0
HasUnit word count unit = (letter : ℕ) × (word ≡ count ++ letter ∷ []) × (unit_of letter ≡ Some unit)

-- the digits of a number, which may stand after a plus, are this many milliseconds of this unit, a number of 64 bits
abbrev pub IsManyOf : List ℕ → ℕ → ℕ → Type 0
IsManyOf count unit span =
    IsNumeral 10 (without_leading_plus count) × (span ≡ digits_value 10 (without_leading_plus count) * unit) × (span < 2 ^ 64)

-- the word is a number and a unit, which make this span in milliseconds
abbrev pub IsSpan : List ℕ → ℕ → Type 0
IsSpan word span = (count : List ℕ) × (unit : ℕ) × HasUnit word count unit × IsManyOf count unit span
