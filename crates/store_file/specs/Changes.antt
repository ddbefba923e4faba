-- What a call makes of a store's trees.
use Rattle.std.specs.Prelude.{◌≡◌, ◌≢◌, [], ◌∷◌, List, ℕ, ℤ, map}
use Rattle.key_order.specs.Text.{Text as Key}
use Rattle.sqlite_value.specs.Order.{Row}
use Rattle.sqlite_trees.specs.Tree.{Trees, put_row}
use Rattle.store_file.specs.Entries.{entry_row, entry_row_of, note_row, with_more_rows, IsNoted}
use Rattle.store_file.specs.Notes.{Notes}
use Rattle.store_file.specs.declared.format.Note.{Note}
use Rattle.store_file.specs.declared.register.Register.{Register}

-- no entry, nothing noted, and no cell
pub record IsBlank (trees : Trees) : Type 0 where
  pub entries : trees 0 ≡ []
  pub about : trees 1 ≡ []
  pub cells : trees 2 ≡ []

-- no entry and no cell, in this format, by this writer and under this hash key
pub record IsNewStore (format : ℤ) (writer hash_key : List ℕ) (trees : Trees) : Type 0 where
  pub entries : trees 0 ≡ []
  pub about : IsNoted trees format writer hash_key
  pub cells : trees 2 ≡ []

-- all tables but that of entries are as they were
abbrev pub KeepsOtherTables : Trees → Trees → Type 0
KeepsOtherTables old new = (tree : ℕ) → tree ≢ 0 → new tree ≡ old tree

-- such a note is put among the notes, and no entry and no cell has changed
pub record HasNoteMore (format : ℤ) (writer hash_key : List ℕ) (old new : Trees) : Type 0 where
  pub entries : new 0 ≡ old 0
  pub about : new 1 ≡ put_row (note_row format writer hash_key) (old 1)
  pub cells : new 2 ≡ old 2

-- the store writes by this name, and has its format, its hash key, its entries and its cells as before
pub record WritesByNow (writer : List ℕ) (old new : Trees) : Type 0 where
  pub entries : new 0 ≡ old 0
  pub cells : new 2 ≡ old 2
  pub note : Note
  pub noted : Notes old note
  pub about : IsNoted new note.format writer note.hash_key

module _ (rows : List Row) (old new : Trees) where
  -- the table of entries has these rows too, and no note has changed
  pub record HasMore : Type 0 where
    pub entries : new 0 ≡ with_more_rows (old 0) rows
    pub about : new 1 ≡ old 1

  -- the table of entries has these rows in place of its own, and no note has changed
  pub record HasInstead : Type 0 where
    pub entries : new 0 ≡ with_more_rows [] rows
    pub about : new 1 ≡ old 1

-- the table of entries has this register under the key too, and no note has changed
abbrev pub HasOneMore : List ℕ → Register → Trees → Trees → Type 0
HasOneMore key register = HasMore (entry_row_of key register ∷ [])

-- it has these entries too, and no note has changed
abbrev pub HasEntriesMore : List (Key × Register) → Trees → Trees → Type 0
HasEntriesMore entries = HasMore (map entry_row entries)

-- it has these entries in place of its own, and no note has changed
abbrev pub HasEntriesInstead : List (Key × Register) → Trees → Trees → Type 0
HasEntriesInstead entries = HasInstead (map entry_row entries)
