-- The latest registers of the keys between two others.
use Rattle.std.specs.Prelude.{◌≡◌, ◌≢◌, ◌⊎◌, Bool, true, false, ◌&&◌, cond, List, [], ◌∷◌, ◌++◌, Option, Some, None, string_bytes}
use Rattle.std.specs.List.{cons_option}
use Rattle.std.specs.Ordering.{is_eq}
use Rattle.key_order.specs.Order.{below}
use Rattle.key_order.specs.Text.{Text as Key, text_order}
use Rattle.key_order.specs.Map.{IsMap, get}
use Rattle.sqlite_value.specs.declared.value.Value.TheVariants.{Text as Words, Blob}
use Rattle.sqlite_value.specs.Order.{Row}
use Rattle.sqlite_trees.specs.Tree.{Trees}
use Rattle.sqlite_trees.specs.View.{View}
use Rattle.store_file.specs.Entries.{entry_row}
use Rattle.store_file.specs.Latest.{IsLatestAt}
use Rattle.store_file.specs.Reading.{TakesEntry}
use Rattle.store_file.specs.declared.register.Register.{Register}

-- whether a key is above a bound, where there is one
abbrev pub above_bound : Option Key → Key → Bool
above_bound None key = true
above_bound (Some after) key = below text_order after key

-- whether a key is below a bound, where there is one
abbrev pub below_bound : Option Key → Key → Bool
below_bound None key = true
below_bound (Some before) key = below text_order key before

-- whether a key is between two bounds, where there are these
abbrev pub is_between : Option Key → Option Key → Key → Bool
is_between after before key = above_bound after key && below_bound before key

-- the row from which a seek comes to the entries of the keys above a bound, since the time of an entry is below each BLOB
abbrev pub row_above : Option Key → Row
row_above None = []
row_above (Some after) = Words (string_bytes after) ∷ Blob [] ∷ []

-- where the old rows are a map, the new ones are that with the key of an entry set to its register
pub record HasSet (old : List (Key × Register)) (entry : Key × Register) (new : List (Key × Register)) : Type 0 where
  pub ascending : IsMap text_order old → IsMap text_order new
  pub set : IsMap text_order old → (key : Key) → get text_order new key ≡ cond (is_eq (text_order entry.0 key)) (Some entry.1) (get text_order old key)

-- the rows ascend by key, a key between the two has its latest register in the table, where it has one, and no other key has a row
pub record AreLatestBetween (after before : Option Key) (trees : Trees) (rows : List (Key × Register)) : Type 0 where
  pub ascending : IsMap text_order rows
  pub latest : (key : Key) → is_between after before key ≡ true → IsLatestAt trees (string_bytes key) (get text_order rows key)
  pub others : (key : Key) → is_between after before key ≡ false → get text_order rows key ≡ None

-- these are all such rows, or the first of them: at least one, and all up to a key below the bound
pub record AreFirstBetween (after before : Option Key) (trees : Trees) (rows : List (Key × Register)) (whole : Bool) : Type 0 where
  pub all : whole ≡ true → AreLatestBetween after before trees rows
  pub first : whole ≡ false → (rows ≢ []) × ((next : Key) × (below_bound before next ≡ true) × AreLatestBetween after (Some next) trees rows)

-- the cursor gave the row of this entry, of a key below the bound, or it was at its end or at a row of another key
abbrev pub TakesBelow : Option Key → View → View → Option (Key × Register) → Type 0
TakesBelow before old new (Some entry) = (below_bound before entry.0 ≡ true) × TakesEntry old new (Some entry)
TakesBelow before old new None = TakesEntry old new None ⊎ ((entry : Key × Register) × (below_bound before entry.0 ≡ false) × TakesEntry old new (Some entry))

module _ {T : Type 0} (Took : T → T → List (Key × Register) → Bool → Type 0) where
  -- a visitor takes this row after others, and takes more or doesn't
  abbrev pub TakesRow : T → T → Key × Register → Bool → Type 0
  TakesRow old new row more = (first : T) (rows : List (Key × Register)) → Took first old rows true → Took first new (rows ++ row ∷ []) more

  -- so it takes the last one, where there is one
  abbrev pub TakesLast : T → T → Option (Key × Register) → Type 0
  TakesLast old new last = (first : T) (rows : List (Key × Register)) → Took first old rows true → (more : Bool) × Took first new (rows ++ cons_option last []) more

  -- since the first it took these rows and the last one, unless an entry is of its key, and the rows that it took with that entry are those with its key set
  pub record HasPassed (first new : T) (last : Option (Key × Register)) (entry : Key × Register) (more : Bool) (rows : List (Key × Register)) : Type 0 where
    pub given : List (Key × Register)
    pub took : Took first new given more
    pub set : HasSet (rows ++ cons_option last []) entry (given ++ entry ∷ [])
    pub full : more ≡ false → (given ≢ []) × (given ≡ rows ++ cons_option last [])

  -- so it is of whatever rows it took before, of which there are none where there is no last one
  abbrev pub HandsOn : T → T → Option (Key × Register) → Key × Register → Bool → Type 0
  HandsOn old new last entry more =
      (first : T) (rows : List (Key × Register)) → Took first old rows true → (last ≡ None → rows ≡ []) → HasPassed first new last entry more rows

  -- a visitor took all rows between the two, or the first of them, as many as it takes
  abbrev pub HasVisited : T → T → Option Key → Option Key → Trees → Bool → Type 0
  HasVisited old new after before trees whole =
      (rows : List (Key × Register)) × (more : Bool) × Took old new rows more × AreFirstBetween after before trees rows whole × (whole ≡ false → more ≡ false)

-- rows were added to a list, which takes all
abbrev pub AreListed : List (Key × Register) → List (Key × Register) → List (Key × Register) → Bool → Type 0
AreListed old new rows more = (new ≡ old ++ rows) × (more ≡ true)

-- the first of the table's rows is an entry of this key, or the table has none
abbrev pub IsFirstKey : Trees → Option Key → Type 0
IsFirstKey trees None = trees 0 ≡ []
IsFirstKey trees (Some key) = (r : Register) × (more : List Row) × (trees 0 ≡ entry_row (key, r) ∷ more)
