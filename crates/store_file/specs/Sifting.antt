-- What of the rows of a table can be read where some are no entries.
use Rattle.std.specs.Prelude.{◌≡◌, ◌≢◌, ◌⊎◌, ◌+◌, ⊤, ℕ, List, [], ◌∷◌, ◌++◌, Option, Some, None, IfSome, IsUtf8, filter, filter_map, is_none, length, string_bytes}
use Rattle.key_order.specs.Text.{Text as Key}
use Rattle.sqlite_value.specs.Order.{Row}
use Rattle.sqlite_value.specs.declared.value.Value.{Value as Cell}
use Rattle.sqlite_value.specs.declared.value.Value.TheVariants.{Text as Words}
use Rattle.store_file.specs.Entries.{entry_row, value_cell}
use Rattle.store_file.specs.Values.{IsFormed}
use Rattle.store_file.specs.declared.register.Register.{Register}
use Rattle.store_file.specs.declared.value.Value.{Value}

-- the key and the writer of an entry are texts, and its value has its one form
pub record HasTexts (entry : Key × Register) : Type 0 where
  pub key : IsUtf8 (string_bytes entry.0)
  pub writer : IsUtf8 (string_bytes entry.1.writer)
  pub value : IfSome entry.1.value IsFormed

-- a row is that of no entry
abbrev pub IsNoEntry : Row → Type 0
IsNoEntry row = (entry : Key × Register) → HasTexts entry → row ≢ entry_row entry

-- this entry, whose value has its one form, is that of a row
abbrev pub IsEntryOf : Row → Key × Register → Type 0
IsEntryOf row entry = (row ≡ entry_row entry) × IfSome entry.1.value IsFormed

-- a row is read as its entry, or as none
abbrev pub IsReadAs : Row → Option (Key × Register) → Type 0
IsReadAs row (Some entry) = IsEntryOf row entry
IsReadAs row None = IsNoEntry row

-- each of the rows is read so
abbrev pub AreReadAs : List Row → List (Option (Key × Register)) → Type 0
AreReadAs [] [] = ⊤
AreReadAs [] (reading ∷ readings) = ⊥
AreReadAs (row ∷ rows) [] = ⊥
AreReadAs (row ∷ rows) (reading ∷ readings) = IsReadAs row reading × AreReadAs rows readings

-- these are the entries of the rows, and so many rows are no entries
pub record AreSifted (rows : List Row) (entries : List (Key × Register)) (bad : ℕ) : Type 0 where
  pub readings : List (Option (Key × Register))
  pub read : AreReadAs rows readings
  pub found : entries ≡ filter_map (λ reading. reading) readings
  pub others : bad ≡ length (filter is_none readings)

-- a row more is an entry more, or is no entry
abbrev pub TakesIn : Row → List (Key × Register) → ℕ → List (Key × Register) → ℕ → Type 0
TakesIn row entries bad more others =
    ((entry : Key × Register) × IsEntryOf row entry × (more ≡ entries ++ entry ∷ []) × (others ≡ bad)) ⊎ (IsNoEntry row × (more ≡ entries) × (others ≡ bad + 1))

-- a cell is no text
abbrev pub IsNoText : Cell → Type 0
IsNoText cell = (text : List ℕ) → IsUtf8 text → cell ≢ Words text

-- a cell is neither that of a value in its one form nor what stands for a removal
abbrev pub IsNoValue : Cell → Type 0
IsNoValue cell = (said : Option Value) → IfSome said IsFormed → cell ≢ value_cell said
