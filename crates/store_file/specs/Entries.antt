-- The two trees of a store's file, and the entries that they hold.
use Rattle.std.specs.Prelude.{◌≡◌, [], ◌∷◌, List, ℕ, ℤ, pos, Option, Some, None, string_bytes, map, fold}
use Rattle.std.specs.declared.cmp.Ordering.{Ordering}
use Rattle.std.specs.declared.cmp.Ordering.TheVariants.{Less}
use Rattle.std.specs.Ordering.{ordering_then}
use Rattle.key_order.specs.Text.{Text as Key, text_order}
use Rattle.sqlite_value.specs.declared.value.Value.{Value as Cell}
use Rattle.sqlite_value.specs.declared.value.Value.TheVariants.{Null, Int, Text as Words, Blob}
use Rattle.sqlite_value.specs.Keys.{plain}
use Rattle.sqlite_value.specs.Order.{Row, column}
use Rattle.sqlite_trees.specs.Tree.{Trees, IsAscending, insert_entry}
use Rattle.store_file.specs.Registers.{register_order}
use Rattle.store_file.specs.declared.register.Register.{Register}
use Rattle.store_file.specs.declared.value.Value.{Value}
use Rattle.store_file.specs.declared.value.Value.TheVariants.{Text, Bytes}

-- a text, other bytes as a BLOB, or 0 where the key was removed
abbrev pub value_cell : Option Value → Cell
value_cell None = Int (pos 0)
value_cell (Some (Text text)) = Words (string_bytes text)
value_cell (Some (Bytes bytes)) = Blob bytes.items

-- an entry as a row: the bytes of the key, the time, the writer and the value
abbrev pub entry_row_of : List ℕ → Register → Row
entry_row_of key r = Words key ∷ Int (pos r.time) ∷ Words (string_bytes r.writer) ∷ value_cell r.value ∷ []

abbrev pub entry_row : Key × Register → Row
entry_row e = entry_row_of (string_bytes e.0) e.1

-- by the key, then by the register
abbrev pub entry_order : Key × Register → Key × Register → Ordering
entry_order a b = ordering_then (text_order a.0 b.0) (register_order a.1 b.1)

-- the table of entries has a row for each of these, which ascend
pub record HoldsEntries (trees : Trees) (entries : List (Key × Register)) : Type 0 where
  pub rows : trees 0 ≡ map entry_row entries
  pub ascending : IsAscending (λ a b. entry_order a b ≡ Less) entries

-- rows with more at their places, where one that is there already stays as it is
abbrev pub with_more_rows : List Row → List Row → List Row
with_more_rows rows more = fold (λ all row. insert_entry plain row all) rows more

-- the row that notes the format, the writer and the hash key
abbrev pub note_row : ℤ → List ℕ → List ℕ → Row
note_row format writer hash_key = Int (pos 1) ∷ Null ∷ Int format ∷ Words writer ∷ Blob hash_key ∷ []

-- what a row of the table that says the format notes
abbrev pub note_in : Row → Row
note_in row = column row 2 ∷ column row 3 ∷ column row 4 ∷ []

-- that table has one row, with this format, this writer and this hash key
abbrev pub IsNoted : Trees → ℤ → List ℕ → List ℕ → Type 0
IsNoted trees format writer hash_key = map note_in (trees 1) ≡ (Int format ∷ Words writer ∷ Blob hash_key ∷ []) ∷ []
