-- What a write of a key does to the cells of one level.
use Rattle.std.specs.Prelude.{◌≡◌, ℕ, zero, suc, nat_le, Bool, true, false, not, ◌&&◌, List, Option, Some, None, bytes_eq}
use Rattle.sqlite_value.specs.Order.{Row}
use Rattle.store_tree.specs.Rows.{bound_bytes, row_of_cell, rows_upto, with_known, with_front}
use Rattle.store_tree.specs.Tables.{GivesLast}
use Rattle.store_tree.specs.declared.cell.Cell.{Cell}
use Rattle.store_tree.specs.declared.cell.Known.{Known}
use Rattle.store_tree.specs.declared.cell.Known.TheVariants.{Unknown, Nothing, Page}

-- whether a gap begins above this key
abbrev pub is_front : List ℕ → Option (List ℕ) → Bool
is_front key None = false
is_front key (Some front) = bytes_eq front key

-- the rows with nothing known of the gap of a cell, of which this is known
abbrev pub cleared_of : Known → Cell → List Row → List Row
cleared_of Unknown c rows = rows
cleared_of Nothing c rows = with_known c Unknown rows
cleared_of (Page digest count) c rows = with_known c Unknown rows

abbrev pub cleared : Cell → List Row → List Row
cleared c = cleared_of c.known c

module _ (level : ℕ) (key : List ℕ) where
  -- the rows with a gap above the key too, where one is to begin there and none does
  abbrev pub split : Bool → List Row → List Row
  split true rows = with_front level key rows
  split false rows = rows

  -- of the gap that has the key, or begins above it, nothing is known any more; and where the key is a front of the level, a gap begins above it
  abbrev pub Touches : Bool → List Row → List Row → Type 0
  Touches here old new =
      (c : Cell) × GivesLast (rows_upto level key old) (row_of_cell c) true × (new ≡ split (here && not (is_front key (bound_bytes c.front))) (cleared c old))

-- each level from 1 to one is touched, one after the other, of which those up to the key's get a gap above it
abbrev pub TouchesUpto : List ℕ → ℕ → ℕ → List Row → List Row → Type 0
TouchesUpto key level zero old new = new ≡ old
TouchesUpto key level (suc upto) old new = (mid : List Row) × TouchesUpto key level upto old mid × Touches (suc upto) key (nat_le (suc upto) level) mid new
