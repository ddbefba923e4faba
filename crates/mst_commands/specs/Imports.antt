-- What an import makes of the entries that it reads.
use Rattle.std.specs.Prelude.{◌≡◌, ◌≤◌, ◌<◌, ℕ, Bool, List, map, filter, All, Any, Option, Some, None, string_bytes}
use Rattle.std.specs.Global.{Vec}
use Rattle.std.specs.List.{AllZip}
use Rattle.key_order.specs.Text.{Text as Key, text_order}
use Rattle.key_order.specs.Map.{get}
use Rattle.sqlite_trees.specs.Tree.{Trees}
use Rattle.store_file.specs.Changes.{HasMore}
use Rattle.store_file.specs.Entries.{entry_row}
use Rattle.store_file.specs.Registers.{is_later, time_after}
use Rattle.store_file.specs.Rows.{AreLatest, HasLatestRows}
use Rattle.store_file.specs.declared.register.Register.{Register}

-- the entry as this name writes it: at the clock's time, or one above that of the register that the rows have for its key
pub record IsDated (rows : List (Key × Register)) (name : List ℕ) (now : ℕ) (entry dated : Key × Register) : Type 0 where
  pub key : dated.0 ≡ entry.0
  pub time : dated.1.time ≡ time_after (get text_order rows entry.0) now
  pub writer : string_bytes dated.1.writer ≡ name
  pub value : dated.1.value ≡ entry.1.value

-- the entries are there, each as this name writes it over what the rows have
abbrev pub AreDated : List (Key × Register) → List ℕ → ℕ → Vec (Key × Register) → Vec (Key × Register) → Type 0
AreDated rows name now entries dated = AllZip (IsDated rows name now) entries.items dated.items

-- one of the entries is later than the last time that is taken
abbrev pub HaveFutureTime : ℕ → List (Key × Register) → Type 0
HaveFutureTime latest entries = Any (λ entry. latest < entry.1.time) entries

-- whether an entry is later than what the rows have at its key
abbrev pub is_newer : List (Key × Register) → Key × Register → Bool
is_newer rows entry = is_later (get text_order rows entry.0) entry.1

-- of keys and texts each is written now; of a log none is later than the last time that is taken, and those are added that are news
abbrev pub AreAdded : Option ℕ → List ℕ → ℕ → List (Key × Register) → List (Key × Register) → List (Key × Register) → Type 0
AreAdded None name now rows last added = AllZip (IsDated rows name now) last added
AreAdded (Some limit) name now rows last added = All (λ entry. entry.1.time ≤ limit) last × (added ≡ filter (is_newer rows) last)

-- of the entries that came the latest of each key is taken, over the latest rows of the table's entries
abbrev pub AddsOf : Option ℕ → List ℕ → ℕ → Trees → List (Key × Register) → List (Key × Register) → Type 0
AddsOf log name now trees came added =
    (rows last : List (Key × Register)) × HasLatestRows trees rows × AreLatest came last × AreAdded log name now rows last added

-- those of the entries that came which an import adds are rows more, and nothing else changes
pub record Imports (came : List (Key × Register)) (log : Option ℕ) (name : List ℕ) (now : ℕ) (old new : Trees) : Type 0 where
  pub added : List (Key × Register)
  pub chosen : AddsOf log name now old came added
  pub more : HasMore (map entry_row added) old new
