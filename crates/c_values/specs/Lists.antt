-- Lists of byte strings as bytes.
use Rattle.std.specs.Prelude.{ℕ, List, [], ◌∷◌, ◌++◌, length}
use Rattle.std.specs.List.{flat_map}
use Rattle.std.specs.Int.{w64, to_le_bytes}

-- a number as eight bytes, the lowest first
abbrev pub number_bytes : ℕ → List ℕ
number_bytes = to_le_bytes w64

-- a string as its length and its bytes
abbrev pub sized_bytes : List ℕ → List ℕ
sized_bytes text = number_bytes (length text) ++ text

-- a row: its key and its value
abbrev pub sized_row : List ℕ × List ℕ → List ℕ
sized_row r = sized_bytes r.0 ++ sized_bytes r.1

-- a list: its mark, the number of its entries, and the entries one after the other
abbrev pub marked_list : {X : Type 0} → List ℕ → (X → List ℕ) → List X → List ℕ
marked_list mark bytes xs = mark ++ (number_bytes (length xs) ++ flat_map bytes xs)

-- the mark of a list of rows, "MSTr"
abbrev pub row_mark : List ℕ
row_mark = 77 ∷ 83 ∷ 84 ∷ 114 ∷ []

-- a list of rows
abbrev pub row_list : List (List ℕ × List ℕ) → List ℕ
row_list = marked_list row_mark sized_row
