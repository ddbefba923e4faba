-- When the rows in memory are those of the file.
use Rattle.std.specs.Prelude.{◌≡◌, ℕ, Bool, true, List, [], Option, string_bytes}
use Rattle.key_order.specs.Text.{Text as Key, text_order}
use Rattle.key_order.specs.Map.{SameValue, get}
use Rattle.key_order.specs.Join.{joined}
use Rattle.sqlite_trees.specs.declared.store.Store.{Ghosts}
use Rattle.sqlite_trees.specs.Tree.{Trees}
use Rattle.merkle_replica.specs.Puts.{join_of_values, HasGathered, IsPuts}
use Rattle.store_file.specs.Changes.{HasEntriesMore}
use Rattle.store_file.specs.Entries.{HoldsEntries, IsNoted}
use Rattle.store_file.specs.Latest.{IsLatestAt}
use Rattle.store_file.specs.Logs.{trees_of, IsClean}
use Rattle.store_file.specs.declared.register.Register.{Register}
use Rattle.store_file.specs.declared.format.TheConstants.{FORMAT}
use Rattle.store_file.specs.contracts.register.RegisterPartialEq.TheImpl as register_eq
use Rattle.store_file.specs.contracts.registers.RegisterJoin.TheImpl as register_join

module _ (eq : Register → Register → Bool) (join : Register → Register → Register) where
  -- The trees are those of a store by this writer, and the rows in memory are the map that has, for each key of an entry of its table, the
  -- join of all registers that the entries have for it: the latest.
  pub record HoldsLatest (writer : List ℕ) (trees : Trees) (rows : List (Key × Register)) : Type 0 where
    pub hash_key : List ℕ
    pub about : IsNoted trees FORMAT writer hash_key
    pub entries : List (Key × Register)
    pub held : HoldsEntries trees entries
    pub gathered : HasGathered text_order eq join [] entries rows

  -- joined with the rows, these entries make the same as those
  abbrev pub JoinTheSame : List (Key × Register) → List (Key × Register) → List (Key × Register) → Type 0
  JoinTheSame rows these those = (k : Key) → SameValue (λ x y. eq x y ≡ true)
      (joined join (get text_order rows k) (join_of_values text_order eq join these k)) (joined join (get text_order rows k) (join_of_values text_order eq join those k))

-- whether two registers are equal
abbrev pub same_register : Register → Register → Bool
same_register = (register_eq.ghosts).eq

-- the later of two registers, which is their join
abbrev pub later_register : Register → Register → Register
later_register = (register_join.ghosts).join_of

-- equal registers, or none on both sides
abbrev pub SameRegister : Option Register → Option Register → Type 0
SameRegister = SameValue (λ x y. same_register x y ≡ true)

-- the new rows are the join of the old ones with all these entries
abbrev pub JoinsEntries : List (Key × Register) → List (Key × Register) → List (Key × Register) → Type 0
JoinsEntries = HasGathered text_order same_register later_register

-- the new rows are what the old ones become where these entries are put, one after the other
abbrev pub HasPutAll : List (Key × Register) → List (Key × Register) → List (Key × Register) → Type 0
HasPutAll = IsPuts text_order same_register later_register

-- the rows in memory are those of the trees, which are a store's of this writer
abbrev pub AreInStep : List ℕ → Trees → List (Key × Register) → Type 0
AreInStep = HoldsLatest same_register later_register

-- the rows in memory are those of the trees, by the writer that they note
abbrev pub AreRowsOf : Trees → List (Key × Register) → Type 0
AreRowsOf trees rows = (writer hash_key : List ℕ) → IsNoted trees FORMAT writer hash_key → AreInStep writer trees rows

-- what is found in the table for a key is what the rows have for it
abbrev pub TellFound : Trees → List (Key × Register) → Type 0
TellFound trees rows = (key : Key) (found : Option Register) → IsLatestAt trees (string_bytes key) found → SameRegister found (get text_order rows key)

-- rows in memory that are those of a store's trees tell what is found in them
abbrev pub InStepTellFound : Type 0
InStepTellFound = (writer : List ℕ) (trees : Trees) (rows : List (Key × Register)) → AreInStep writer trees rows → TellFound trees rows

-- where entries are added to a table, its rows are the join of those before with these entries
abbrev pub AddedAreJoined : Type 0
AddedAreJoined = (entries : List (Key × Register)) (old new : Trees) (rows now : List (Key × Register))
    → HasEntriesMore entries old new → AreRowsOf old rows → JoinsEntries rows entries now → AreRowsOf new now

-- over a clean disk, a log whose file was closed and opened again has the rows that it had
abbrev pub Reopens : {S : Type 0} → Ghosts S → S → S → Type 0
Reopens g log again = IsClean g again → trees_of g again ≡ trees_of g log
