-- The lines of an input.
use Rattle.std.specs.Prelude.{◌==◌, ℕ, List, [], ◌∷◌, ◌++◌, if◌then◌else◌}

-- the byte that ends a line
abbrev pub newline : ℕ
newline = 10

-- an input as the lines that end in a newline, each without it, and what stands after the last newline
pub record Parts : Type 0 where
  pub whole : List (List ℕ)
  pub rest : List ℕ

-- a byte that is no newline stands before an input with these parts
abbrev pub grown : ℕ → List (List ℕ) → List ℕ → Parts
grown b [] rest = record { whole = []; rest = b ∷ rest }
grown b (line ∷ lines) rest = record { whole = (b ∷ line) ∷ lines; rest = rest }

-- the parts of an input
abbrev pub parts : List ℕ → Parts
parts [] = record { whole = []; rest = [] }
parts (b ∷ bs) = if b == newline then record { whole = [] ∷ (parts bs).whole; rest = (parts bs).rest } else grown b (parts bs).whole (parts bs).rest

-- the lines that end in a newline
abbrev pub whole_lines : List ℕ → List (List ℕ)
whole_lines bs = (parts bs).whole

-- what stands after the last newline is a line if it has a byte
abbrev pub line_if_any : List ℕ → List (List ℕ)
line_if_any [] = []
line_if_any (b ∷ bs) = (b ∷ bs) ∷ []

-- all the lines of an input
abbrev pub lines_of : List ℕ → List (List ℕ)
lines_of bs = whole_lines bs ++ line_if_any (parts bs).rest
