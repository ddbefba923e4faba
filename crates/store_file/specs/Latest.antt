-- The latest register that the table has for a key.
use Rattle.std.specs.Prelude.{◌≡◌, ◌≤◌, ◌^◌, if◌then◌else◌, ℕ, Bool, List, [], ◌∷◌, Option, Some, None, is_some, option_map, option_and_then, IsTrue}
use Rattle.std.specs.List.{filter, last_or}
use Rattle.std.specs.Ordering.{is_eq}
use Rattle.key_order.specs.Text.{Text as Key}
use Rattle.sqlite_value.specs.declared.value.Value.TheVariants.{Text as Words}
use Rattle.sqlite_value.specs.Order.{Row, column, value_cmp}
use Rattle.sqlite_trees.specs.Tree.{Trees}
use Rattle.store_file.specs.Changes.{HasMore}
use Rattle.store_file.specs.Entries.{entry_row_of}
use Rattle.store_file.specs.Registers.{time_after}
use Rattle.store_file.specs.declared.register.Register.{Register}
use Rattle.store_file.specs.declared.value.Value.{Value}

-- the rows of a key, which is the first column
abbrev pub rows_of : List ℕ → List Row → List Row
rows_of key rows = filter (λ row. is_eq (value_cmp (column row 0) (Words key))) rows

-- where a last row of the key was found it is this one, of those of the table
abbrev pub IsLastRow : Trees → List ℕ → Row → Bool → Type 0
IsLastRow trees key row found = last_or None (rows_of key (trees 0)) ≡ (if found then Some row else None)

-- of the table's rows of the key, which ascend by the registers, the last has this register, or it has none
abbrev pub IsLatestAt : Trees → List ℕ → Option Register → Type 0
IsLatestAt trees key found = last_or None (rows_of key (trees 0)) ≡ option_map (entry_row_of key) found

-- what a register says: a value, or none where there is no register or a removal
abbrev pub said_by : Option Register → Option Value
said_by found = option_and_then (λ r. r.value) found

-- whether the latest register of the key says a value
abbrev pub IsThere : Trees → List ℕ → Bool → Type 0
IsThere trees key there = (found : Option Register) × IsLatestAt trees key found × (there ≡ is_some (said_by found))

-- a write over the latest register of the key, at this time of the clock, has a time that the database can't hold
abbrev pub IsWrittenLate : Trees → List ℕ → ℕ → Type 0
IsWrittenLate trees key now = (found : Option Register) × IsLatestAt trees key found × (2 ^ 63 ≤ time_after found now)

-- the row that a write over `found` adds: at the clock's time, or one above that of the register that was found
abbrev pub written_row : List ℕ → Option Register → Key → ℕ → Option Value → Row
written_row key found writer now value = entry_row_of key (record { time = time_after found now; writer = writer; value = value })

-- the table has the row of a write over `found` too, and no note has changed
abbrev pub HasWriteOver : List ℕ → Option Register → Key → ℕ → Option Value → Trees → Trees → Type 0
HasWriteOver key found writer now value = HasMore (written_row key found writer now value ∷ [])

-- one row is added to the table, and nothing else changes: a write of the value over the latest register of the key
abbrev pub WritesOver : List ℕ → Key → ℕ → Option Value → Trees → Trees → Type 0
WritesOver key writer now value old new = (found : Option Register) × IsLatestAt old key found × HasWriteOver key found writer now value old new

-- where the key was there, a removal is written over its latest register
abbrev pub Removes : List ℕ → Key → ℕ → Trees → Trees → Bool → Type 0
Removes key writer now old new was = IsTrue was → WritesOver key writer now None old new
