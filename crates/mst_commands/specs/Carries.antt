-- What each command makes of the table of a store.
use Rattle.std.specs.Prelude.{◌≡◌, ◌+◌, ◌-◌, ◌^◌, min, ℕ, Bool, ⊤, false, true, List, [], Option, Some, None, IfSome, if◌then◌else◌}
use Rattle.key_order.specs.Text.{Text as Key}
use Rattle.mst_words.specs.declared.command.StoreCommand.{StoreCommand}
use Rattle.mst_words.specs.declared.command.StoreCommand.TheVariants.{Table}
use Rattle.mst_words.specs.declared.command.TableCommand.TheVariants.{Put, Del, Import, Compact}
use Rattle.mst_words.specs.declared.command.Wanted.{Wanted}
use Rattle.sqlite_trees.specs.Tree.{Trees}
use Rattle.store_file.specs.Rows.{IsCompacted}
use Rattle.store_file.specs.Values.{IsValueOf}
use Rattle.store_file.specs.declared.register.Register.{Register}
use Rattle.store_file.specs.declared.value.Value.{Value}
use Rattle.mst_commands.specs.Imports.{Imports}
use Rattle.mst_commands.specs.Writes.{IsMet, WritesBy}
use Rattle.mst_commands.specs.declared.input.Input.{Input}
use Rattle.mst_commands.specs.declared.input.Input.TheVariants.{Nothing, Bytes, Records}

-- what a command reads from the input: a put whose value is to come from there reads it, and an import its entries
abbrev pub IsInputOf : StoreCommand → Input → Type 0
IsInputOf (Table (Put key value is_input wanted)) (Bytes bytes) = is_input ≡ true
IsInputOf (Table (Import is_log ahead)) (Records entries) = ⊤
IsInputOf (Table (Put key value is_input wanted)) Nothing = is_input ≡ false
IsInputOf (Table (Import is_log ahead)) Nothing = ⊥
IsInputOf _ Nothing = ⊤
IsInputOf _ _ = ⊥

-- the bytes of the value of a put: those of the input, or else those of the text that is given
abbrev pub value_of : Input → List ℕ → List ℕ
value_of (Bytes bytes) text = bytes.items
value_of _ text = text

-- the entries of an import: those of the input
abbrev pub imported_entries : Input → List (Key × Register)
imported_entries (Records entries) = entries.items
imported_entries _ = []

-- a put writes the value of these bytes under the key, at some time of the clock, and only if the key was as it is wanted
pub record Puts (name key contents : List ℕ) (condition : Option Wanted) (old new : Trees) : Type 0 where
  pub wanted : IfSome condition (λ wanted. IsMet wanted key true old)
  pub now : ℕ
  pub value : Value
  pub bytes : IsValueOf contents value
  pub written : WritesBy key name now (Some value) old new

-- a removal is written of the key
abbrev pub Dels : List ℕ → List ℕ → Trees → Trees → Type 0
Dels name key old new = (now : ℕ) × WritesBy key name now None old new

-- the latest time that an entry of a log may have: a day ahead of the clock, or any that there is
abbrev pub latest_time : Bool → ℕ → ℕ
latest_time ahead now = if ahead then 2 ^ 64 - 1 else min (now + 86400000) (2 ^ 64 - 1)

-- it is asked for where a log is imported
abbrev pub limit_of : Bool → Bool → ℕ → Option ℕ
limit_of is_log ahead now = if is_log then Some (latest_time ahead now) else None

-- an import adds the entries that the input had
abbrev pub ImportsInput : List ℕ → Bool → Bool → Input → Trees → Trees → Type 0
ImportsInput name is_log ahead input old new = (now : ℕ) × Imports (imported_entries input) (limit_of is_log ahead now) name now old new

-- the time below which a compaction drops removals: so long before the clock's, or none
abbrev pub forgets_below : Option ℕ → ℕ → ℕ
forgets_below None now = 0
forgets_below (Some span) now = now - span

-- a compaction leaves the latest row of each key, but for removals that are older than this
abbrev pub Compacts : Option ℕ → Trees → Trees → Type 0
Compacts forget old new = (now : ℕ) × IsCompacted (forgets_below forget now) old new

-- what a command makes of the table, by the writer of this name, with what it read: those that only read leave it as it is
abbrev pub Carries : StoreCommand → List ℕ → Input → Trees → Trees → Type 0
Carries (Table (Put key value is_input wanted)) name input old new = Puts name key.now (value_of input value.now) wanted old new
Carries (Table (Del key)) name input old new = Dels name key.now old new
Carries (Table (Import is_log ahead)) name input old new = ImportsInput name is_log ahead input old new
Carries (Table (Compact forget)) name input old new = Compacts forget old new
Carries _ name input old new = new ≡ old
