-- The words of a line of the shell.
use Rattle.std.specs.Prelude.{◌≡◌, ◌==◌, ℕ, ◌||◌, ⊤, cond, List, [], ◌∷◌, ◌++◌, map, Option, Some, None, option_map, option_and_then, string_bytes, encode_utf8, Result, Ok, Err}
use Rattle.std.specs.Str.{chars}
use Rattle.mst_words.specs.declared.line.NoWords.{NoWords}
use Rattle.mst_words.specs.declared.line.NoWords.TheVariants.{Wrong, Memory}
use Rattle.mst_words.specs.declared.line.Place.{Place}
use Rattle.mst_words.specs.declared.line.Place.TheVariants.{Between, Within, Quoted, Escaped}
use Rattle.mst_words.specs.declared.line.Reading.{Reading}

-- how far a line has been read: the words that ended, the bytes of the one that didn't, and where the next character stands
pub record Line : Type 0 where
  pub words : List (List ℕ)
  pub word : List ℕ
  pub place : Place

-- nothing has been read
abbrev pub nothing_read : Line
nothing_read = record { words = []; word = []; place = Between }

-- the character that stands for another after a backslash
abbrev pub meant_by : ℕ → Option ℕ
meant_by c = cond (c == 116) (Some 9) (cond (c == 110) (Some 10) (cond (c == 114) (Some 13) (cond (c == 92) (Some 92) (cond (c == 34) (Some 34) None))))

-- the word ends
abbrev pub ended : Line → Line
ended line = record { words = line.words ++ line.word ∷ []; word = []; place = Between }

-- a blank ends a word, if one has begun
abbrev pub blank : Place → Line → Line
blank Within line = ended line
blank _ line = line

-- the word has one character more
abbrev pub spelt : Place → ℕ → Line → Line
spelt place c line = record line { word = line.word ++ encode_utf8 c; place = place }

-- a character outside of quotes: a blank or a tab parts words, and a quote begins them
abbrev pub read_plain : ℕ → Line → Line
read_plain c line =
    cond (c == 32 || c == 9) (blank line.place line) (cond (c == 34) (record line { place = Quoted }) (spelt Within c line))

-- a character between quotes: a quote ends them, and a backslash stands before a character that is meant otherwise
abbrev pub read_quoted : ℕ → Line → Line
read_quoted c line = cond (c == 34) (record line { place = Within }) (cond (c == 92) (record line { place = Escaped }) (spelt Quoted c line))

-- a character at its place, or none where it has no meaning after a backslash
abbrev pub read_at : Place → ℕ → Line → Option Line
read_at Between c line = Some (read_plain c line)
read_at Within c line = Some (read_plain c line)
read_at Quoted c line = Some (read_quoted c line)
read_at Escaped c line = option_map (λ meant. spelt Quoted meant line) (meant_by c)

-- the next character of a line
abbrev pub next : ℕ → Line → Option Line
next c line = read_at line.place c line

-- the characters of a line, one by one
abbrev pub read_all : List ℕ → Line → Option Line
read_all [] line = Some line
read_all (c ∷ cs) line = option_and_then (read_all cs) (next c line)

-- the words, where no quote is open
abbrev pub closed : Place → Line → Option (List (List ℕ))
closed Between line = Some line.words
closed Within line = Some (ended line).words
closed Quoted line = None
closed Escaped line = None

-- the words of a line, or none where a quote isn't closed or a backslash has no meaning
abbrev pub words_in : List ℕ → Option (List (List ℕ))
words_in text = option_and_then (λ (line : Line). closed line.place line) (read_all (chars text) nothing_read)

-- how far a line has been read, as bytes
abbrev pub line_of : Reading → Line
line_of reading = record { words = map string_bytes reading.words.items; word = string_bytes reading.word; place = reading.place }

-- a line was read so far, or memory ran out, or it has no words
abbrev pub IsLineRead : Option Line → Result Reading NoWords → Type 0
IsLineRead line (Ok reading) = line ≡ Some (line_of reading)
IsLineRead line (Err Memory) = ⊤
IsLineRead line (Err Wrong) = line ≡ None
