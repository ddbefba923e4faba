-- The latest rows of entries, and what rows say in numbers.
use Rattle.std.specs.Prelude.{◌≡◌, ℕ, max, nat_le, nat_eq, string_bytes, Bool, false, ◌||◌, List, map, filter, fold, is_some, is_none, All, Contains, IsSomeAnd}
use Rattle.std.specs.Cmp.Lexicographic.{pointwise}
use Rattle.std.specs.Ordering.{is_lt}
use Rattle.key_order.specs.Text.{Text as Key, text_order}
use Rattle.key_order.specs.Map.{IsMap, get}
use Rattle.sqlite_trees.specs.Tree.{Trees}
use Rattle.store_file.specs.Changes.{HasInstead}
use Rattle.store_file.specs.Entries.{HoldsEntries, entry_row}
use Rattle.store_file.specs.Registers.{register_order, HaveLateTime}
use Rattle.store_file.specs.declared.register.Register.{Register}

module _ (entries rows : List (Key × Register)) where
  -- the rows are the latest of the entries: they ascend by key, each is an entry, and no entry is later than the row of its key
  pub record AreLatest : Type 0 where
    pub ascending : IsMap text_order rows
    pub taken : All (Contains entries) rows
    pub latest : All (λ entry. IsSomeAnd (get text_order rows entry.0) (λ r. is_lt (register_order r entry.1) ≡ false)) entries

-- these are the latest rows of the table's entries
abbrev pub HasLatestRows : Trees → List (Key × Register) → Type 0
HasLatestRows trees rows = (entries : List (Key × Register)) × HoldsEntries trees entries × AreLatest entries rows

-- one of the latest rows of the table's entries has a time that the database can't hold
abbrev pub HasLateRow : Trees → Type 0
HasLateRow trees = (rows : List (Key × Register)) × HasLatestRows trees rows × HaveLateTime rows

-- whether two rows have one key
abbrev pub have_one_key : Key × Register → Key × Register → Bool
have_one_key a b = pointwise nat_eq (string_bytes a.0) (string_bytes b.0)

-- whether a row says a value
abbrev pub says_value : Key × Register → Bool
says_value row = is_some row.1.value

-- whether a row is a removal
abbrev pub is_removal : Key × Register → Bool
is_removal row = is_none row.1.value

-- the greatest time of rows, or 0
abbrev pub last_time : List (Key × Register) → ℕ
last_time rows = fold (λ last (row : Key × Register). max last row.1.time) 0 rows

-- whether a row stays in a compaction: it says a value, or is a removal that is no older than this time
abbrev pub stays : ℕ → Key × Register → Bool
stays before row = is_some row.1.value || nat_le before row.1.time

-- the table has the latest rows of its entries that stay, in place of its own, and no note has changed
abbrev pub IsCompacted : ℕ → Trees → Trees → Type 0
IsCompacted before old new = (rows : List (Key × Register)) × HasLatestRows old rows × HasInstead (map entry_row (filter (stays before) rows)) old new
