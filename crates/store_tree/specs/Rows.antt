-- Cells as rows, and the rows of a level.
use Rattle.std.specs.Prelude.{◌≡◌, ◌⊎◌, ◌<◌, ◌+◌, ℕ, zero, suc, pos, Bool, true, not, ◌&&◌, List, [], ◌∷◌, filter, Option, Some, None, string_bytes}
use Rattle.std.specs.Option.{option_map}
use Rattle.std.specs.Ordering.{is_eq, is_gt, is_lt}
use Rattle.std.specs.declared.alloc.Global.{Global}
use Rattle.std.specs.declared.string.String.{String}
use Rattle.sqlite_value.specs.declared.value.Value.{Value}
use Rattle.sqlite_value.specs.declared.value.Value.TheVariants.{Null, Int, Text as Words, Blob}
use Rattle.sqlite_value.specs.Keys.{plain}
use Rattle.sqlite_value.specs.Order.{Row, column, value_cmp}
use Rattle.sqlite_trees.specs.Tree.{insert_entry, remove_entry}
use Rattle.store_tree.specs.declared.cell.Cell.{Cell}
use Rattle.store_tree.specs.declared.cell.Known.{Known}
use Rattle.store_tree.specs.declared.cell.Known.TheVariants.{Unknown, Nothing, Page}

-- the key above which a gap begins, or 0 at the front
abbrev pub front_value : Option (List ℕ) → Value
front_value None = Int (pos 0)
front_value (Some key) = Words key

-- NULL, or 0 where there is no key, or the digest of a page
abbrev pub known_value : Known → Value
known_value Unknown = Null
known_value Nothing = Int (pos 0)
known_value (Page digest count) = Blob digest

-- NULL where nothing is known, and else how many keys there are
abbrev pub count_value : Known → Value
count_value Unknown = Null
count_value Nothing = Int (pos 0)
count_value (Page digest count) = Int (pos count)

-- the row of a cell: its level, the key above which its gap begins, what is known of the gap, and how many keys are known to be there
abbrev pub cell_row : ℕ → Option (List ℕ) → Known → Row
cell_row level front known = Int (pos level) ∷ front_value front ∷ known_value known ∷ count_value known ∷ []

-- the bytes of a bound, where there is one
abbrev pub bound_bytes : Option (String Global) → Option (List ℕ)
bound_bytes = option_map (λ key. string_bytes key)

abbrev pub row_of_cell : Cell → Row
row_of_cell c = cell_row c.level (bound_bytes c.front) c.known

-- whether a row is on the level
abbrev pub is_level : ℕ → Row → Bool
is_level level row = is_eq (value_cmp (column row 0) (Int (pos level)))

-- whether the gap of a row begins at a front or above it
abbrev pub is_from : Option (List ℕ) → Row → Bool
is_from None row = true
is_from (Some key) row = not (is_lt (value_cmp (column row 1) (Words key)))

-- whether the gap of a row begins below the bound, where there is one
abbrev pub is_ahead : Option (List ℕ) → Row → Bool
is_ahead None row = true
is_ahead (Some key) row = is_lt (value_cmp (column row 1) (Words key))

-- whether the gap of a row begins at the front or above a key that is at most this one
abbrev pub is_upto : List ℕ → Row → Bool
is_upto key row = not (is_gt (value_cmp (column row 1) (Words key)))

-- the rows of a level
abbrev pub rows_on : ℕ → List Row → List Row
rows_on level = filter (is_level level)

-- the rows of a level whose gaps begin from a front on and below a bound
abbrev pub rows_between : ℕ → Option (List ℕ) → Option (List ℕ) → List Row → List Row
rows_between level front before = filter (λ row. is_level level row && (is_from front row && is_ahead before row))

-- the rows of a level whose gaps begin up to a key
abbrev pub rows_upto : ℕ → List ℕ → List Row → List Row
rows_upto level key = filter (λ row. is_level level row && is_upto key row)

-- the row from which a seek comes to the rows of a level from a front on
abbrev pub start_row : ℕ → Option (List ℕ) → Row
start_row level None = Int (pos level) ∷ []
start_row level (Some key) = Int (pos level) ∷ Words key ∷ []

-- no row is on a level above this one, which has one unless it is 0
pub record IsTop (rows : List Row) (top : ℕ) : Type 0 where
  pub above : (level : ℕ) → top < level → rows_on level rows ≡ []
  pub there : (top ≡ 0) ⊎ (rows_on top rows ≡ [] → ⊥)

-- the rows with something else known of a cell's gap
abbrev pub with_known : Cell → Known → List Row → List Row
with_known c known rows = insert_entry plain (cell_row c.level (bound_bytes c.front) known) (remove_entry plain (row_of_cell c) rows)

-- the rows with nothing known of a cell's gap
abbrev pub cleared : Cell → List Row → List Row
cleared c = with_known c Unknown

-- the rows with one more, from whose key on nothing is known
abbrev pub with_front : ℕ → List ℕ → List Row → List Row
with_front level key = insert_entry plain (cell_row level (Some key) Unknown)

-- the rows with this many levels more above a level, each with one gap of which nothing is known
abbrev pub with_levels : ℕ → ℕ → List Row → List Row
with_levels top zero rows = rows
with_levels top (suc n) rows = insert_entry plain (cell_row (suc (top + n)) None Unknown) (with_levels top n rows)

-- the rows with a gap above the key on each level up to one, of which nothing is known
abbrev pub with_fronts : List ℕ → ℕ → List Row → List Row
with_fronts key zero rows = rows
with_fronts key (suc upto) rows = with_front (suc upto) key (with_fronts key upto rows)
