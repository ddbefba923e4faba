-- Characters in one line, and in a string of JSON.
use Rattle.std.specs.Prelude.{◌≡◌, ℕ, ◌/◌, ◌%◌, List, [], ◌∷◌, ◌++◌, ◌==◌, nat_lt, cond, encode_utf8_all, codes, Option, MatchOption}
use Rattle.std.specs.Char.{digit_char}
use Rattle.std.specs.List.{flat_map}
use Rattle.std.specs.Str.{chars}

-- a tab, a newline, a carriage return and a backslash are a backslash and a letter
abbrev pub escape_of : ℕ → List ℕ
escape_of c = cond (c == 9) (codes "\\t") (cond (c == 10) (codes "\\n") (cond (c == 13) (codes "\\r") (cond (c == 92) (codes "\\\\") (c ∷ []))))

-- the letter that stands for a character after a backslash, or none where the character stands for itself
abbrev pub IsLetterOf : ℕ → Option ℕ → Type 0
IsLetterOf c found = MatchOption found (escape_of c ≡ c ∷ []) (λ letter. escape_of c ≡ 92 ∷ letter ∷ [])

-- a text in one line
abbrev pub escaped_line : List ℕ → List ℕ
escaped_line text = encode_utf8_all (flat_map escape_of (chars text))

-- a number below 32 as a backslash, the letter u and four digits in base 16
abbrev pub code_of : ℕ → List ℕ
code_of c = codes "\\u00" ++ digit_char (c / 16) ∷ digit_char (c % 16) ∷ []

-- in JSON a quote is a backslash and a quote too, and each other character below a space is its number
abbrev pub json_char : ℕ → List ℕ
json_char c =
    cond (c == 34) (codes "\\\"") (cond (c == 92) (codes "\\\\") (cond (c == 9) (codes "\\t") (cond (c == 10) (codes "\\n") (cond (c == 13) (codes "\\r")
    (cond (nat_lt c 32) (code_of c) (c ∷ []))))))

-- a text as a string of JSON
abbrev pub json_of : List ℕ → List ℕ
json_of text = codes "\"" ++ (encode_utf8_all (flat_map json_char (chars text)) ++ codes "\"")
