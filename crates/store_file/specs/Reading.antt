-- Walks through a log's entries, one call after the other.
use Rattle.std.specs.Prelude.{◌≡◌, ◌⊎◌, if◌then◌else◌, List, [], ◌∷◌, ◌++◌, length, map, fold, Option, Some, None, IsSome}
use Rattle.std.specs.List.{cons_option}
use Rattle.key_order.specs.Text.{Text as Key}
use Rattle.sqlite_value.specs.Order.{Row}
use Rattle.sqlite_trees.specs.declared.store.Store.{Ghosts}
use Rattle.sqlite_trees.specs.View.{View}
use Rattle.store_file.specs.Entries.{entry_row, HoldsEntries}
use Rattle.store_file.specs.Logs.{IsClean, IsSteady, LeavesNoMore, trees_of}
use Rattle.store_file.specs.Rows.{have_one_key, HasLatestRows}
use Rattle.store_file.specs.Walks.{StaysBut}
use Rattle.store_file.specs.declared.reader.Walk.{Walk}
use Rattle.store_file.specs.declared.register.Register.{Register}

-- the cursor gave the row of this entry, or was at its end
abbrev pub TakesEntry : View → View → Option (Key × Register) → Type 0
TakesEntry old new None = (old.cursors 0 ≡ Some []) × (new.cursors 0 ≡ Some [])
TakesEntry old new (Some entry) = (left : List Row) × (old.cursors 0 ≡ Some (entry_row entry ∷ left)) × (new.cursors 0 ≡ Some left)

-- the last entry of each key but the last one, and that of the last key
abbrev pub Groups : Type 0
Groups = List (Key × Register) × Option (Key × Register)

-- an entry after the others, of the last key or of another
abbrev pub with_entry : List (Key × Register) → Option (Key × Register) → Key × Register → Groups
with_entry given None entry = (given, Some entry)
with_entry given (Some last) entry = if have_one_key last entry then (given, Some entry) else (given ++ last ∷ [], Some entry)

-- the groups of entries that ascend
abbrev pub groups_in : List (Key × Register) → Groups
groups_in entries = fold (λ (s : Groups) entry. with_entry s.0 s.1 entry) ([], None) entries

-- the last entry of each key
abbrev pub last_of : Groups → List (Key × Register)
last_of groups = groups.0 ++ cons_option groups.1 []

-- an entry after `last`, where a walk has one, ends its group where the answer says so
abbrev pub EndsGroup : Option (Key × Register) → Option (Key × Register) → Key × Register → Option (Key × Register) → Type 0
EndsGroup last next entry ended = (given : List (Key × Register)) → with_entry given last entry ≡ (given ++ cons_option ended [], next)

module _ {S : Type 0} (g : Ghosts S) (start now : S) where
  -- a walk that began in `start` has read these entries, and nothing else has changed
  pub record IsRead (entries : List (Key × Register)) : Type 0 where
    pub live : IsSome ((g.view now).cursors 0)
    pub passed : IsClean g now → (left : List Row) × ((g.view now).cursors 0 ≡ Some left) × (trees_of g start 0 ≡ map entry_row entries ++ left)
    pub same : IsClean g now → StaysBut (g.view start) (g.view now)
    pub steady : IsSteady g start now
    pub crash : LeavesNoMore g start now

  -- a walk that read these entries is at the end, and has handed out the last entry of each key
  pub record IsAtEnd (walk : Walk) (entries given : List (Key × Register)) : Type 0 where
    pub over : (g.view now).cursors 0 ≡ Some []
    pub none : walk.ahead ≡ None
    pub all : given ≡ last_of (groups_in entries)

  -- a walk that began in `start` has handed out these rows, the latest of the keys so far, and nothing else has changed
  pub record IsWalked (walk : Walk) (given : List (Key × Register)) : Type 0 where
    pub seen : List (Key × Register)
    pub read : IsRead seen
    pub count : walk.count ≡ length seen
    pub groups : IsClean g now → (groups_in seen ≡ (given, walk.ahead)) ⊎ IsAtEnd walk seen given

module _ {S : Type 0} (g : Ghosts S) (old new : S) where
  -- each walk that was in `old` has read this entry too, where there is one
  abbrev pub ReadsOn : Option (Key × Register) → Type 0
  ReadsOn found = (start : S) (entries : List (Key × Register)) → IsRead g start old entries → IsRead g start new (entries ++ cons_option found [])

  -- over a clean disk each walk that was in `old` has read all entries
  abbrev pub ReadsAll : Type 0
  ReadsAll = IsClean g new → (start : S) (entries : List (Key × Register)) → IsRead g start old entries → HoldsEntries (trees_of g start) entries

  module _ (before after : Walk) where
    -- each walk that was in `old` has handed out this row too, where there is one
    abbrev pub WalksOn : Option (Key × Register) → Type 0
    WalksOn found = (start : S) (given : List (Key × Register)) → IsWalked g start old before given → IsWalked g start new after (given ++ cons_option found [])

    -- over a clean disk each walk that was in `old` has handed out all latest rows, and has counted all rows
    abbrev pub WalksAll : Type 0
    WalksAll = IsClean g new → (start : S) (given : List (Key × Register)) → IsWalked g start old before given → HasLatestRows (trees_of g start) given × (after.count ≡ length (trees_of g start 0))
