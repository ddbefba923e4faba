-- Writes that wait until they land together.
use Rattle.std.specs.Prelude.{◌≡◌, ℕ, Bool, true, false, List, [], ◌∷◌, ◌++◌, length, Option, Some, None, string_bytes}
use Rattle.key_order.specs.Text.{Text as Key}
use Rattle.sqlite_trees.specs.Tree.{Trees}
use Rattle.store_file.specs.declared.register.Register.{Register}
use Rattle.store_file.specs.declared.value.Value.{Value}
use Rattle.store_file.specs.declared.value.Value.TheVariants.{Text}
use Rattle.mst_commands.specs.Imports.{Imports}

-- the writes that wait, the first one first, and whether a line among them failed
pub record Waiting : Type 0 where
  pub entries : List (Key × Register)
  pub has_failed : Bool

-- the last of the writes that wait is one of this value under this key, or its removal
pub record WaitsToo (key : List ℕ) (value : Option Value) (old new : Waiting) : Type 0 where
  pub entry : Key × Register
  pub named : string_bytes entry.0 ≡ key
  pub says : entry.1.value ≡ value
  pub place : entry.1.time ≡ length old.entries
  pub waits : new ≡ record old { entries = old.entries ++ entry ∷ [] }

-- the last of them is one of this text
abbrev pub PutWaitsToo : List ℕ → List ℕ → Waiting → Waiting → Type 0
PutWaitsToo key text old new = (own : Key) × (string_bytes own ≡ text) × WaitsToo key (Some (Text own)) old new

-- what waited was imported by the writer of this name, or a line had failed and nothing was
abbrev pub Lands : Waiting → List ℕ → ℕ → Trees → Trees → Bool → Type 0
Lands waiting name now old new true = Imports waiting.entries None name now old new
Lands waiting name now old new false = (waiting.has_failed ≡ true) × (new ≡ old)
