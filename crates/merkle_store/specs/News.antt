-- Those of a peer's entries that are later than what a store has.
use Rattle.std.specs.Prelude.{◌≡◌, ◌≤◌, ℕ, Bool, if◌then◌else◌, List, [], ◌∷◌, Option, All, string_bytes}
use Rattle.std.specs.List.{filter}
use Rattle.key_order.specs.Text.{Text, text_order}
use Rattle.key_order.specs.Map.{get}
use Rattle.sqlite_trees.specs.Tree.{Trees}
use Rattle.store_file.specs.Latest.{IsLatestAt}
use Rattle.store_file.specs.Registers.{is_later}
use Rattle.store_file.specs.declared.register.Register.{Register}
use Rattle.merkle_store.specs.Kept.{AreInStep, JoinsEntries}

-- those of a peer's entries that are later than what the rows have for their keys
abbrev pub later_entries : List (Text × Register) → List (Text × Register) → List (Text × Register)
later_entries rows entries = filter (λ entry. is_later (get text_order rows entry.0) entry.1) entries

-- whether an entry is later than what the table has for its key
abbrev pub IsNewsAt : Trees → Text × Register → Bool → Type 0
IsNewsAt trees entry later = (found : Option Register) × IsLatestAt trees (string_bytes entry.0) found × (later ≡ is_later found entry.1)

-- of the entries, in their order, these are later than what the table has for their keys
abbrev pub AreNewsIn : Trees → List (Text × Register) → List (Text × Register) → Type 0
AreNewsIn trees [] news = news ≡ []
AreNewsIn trees (entry ∷ entries) news = (later : Bool) × IsNewsAt trees entry later
    × ((rest : List (Text × Register)) × AreNewsIn trees entries rest × (news ≡ if later then entry ∷ rest else rest))

-- no entry has a time above the latest that is allowed
abbrev pub AreTimely : ℕ → List (Text × Register) → Type 0
AreTimely latest entries = All (λ entry. entry.1.time ≤ latest) entries

-- rows that have grown, joined with the entries that are later than what they were before, are joined with all
abbrev pub NewsBringAll : Type 0
NewsBringAll = (before written rows came now : List (Text × Register)) → JoinsEntries before written rows → JoinsEntries rows (later_entries before came) now → JoinsEntries rows came now

-- the news in a log are the entries that are later than its rows in memory
abbrev pub NewsInAreLater : Type 0
NewsInAreLater = (writer : List ℕ) (trees : Trees) (rows came news : List (Text × Register)) → AreInStep writer trees rows → AreNewsIn trees came news → news ≡ later_entries rows came
