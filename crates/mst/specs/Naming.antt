-- What a command makes of a store that may have no writer's name yet, as a copy of a backup.
use Rattle.std.specs.Prelude.{◌≡◌, ◌⊎◌, ℕ, Bool, true, false, List, [], ◌∷◌}
use Rattle.mst_commands.specs.Carries.{Carries}
use Rattle.mst_commands.specs.declared.input.Input.{Input}
use Rattle.mst_words.specs.declared.command.StoreCommand.{StoreCommand}
use Rattle.mst_words.specs.declared.command.StoreCommand.TheVariants.{Table}
use Rattle.mst_words.specs.declared.command.TableCommand.TheVariants.{Put, Del, Import}
use Rattle.sqlite_trees.specs.Tree.{Trees}
use Rattle.store_file.specs.Changes.{WritesByNow}

-- whether a command writes by the store's name
abbrev pub writes_by_name : StoreCommand → Bool
writes_by_name (Table (Put key value is_input wanted)) = true
writes_by_name (Table (Del key)) = true
writes_by_name (Table (Import false ahead)) = true
writes_by_name _ = false

-- whether a store of this name gets one before the command: it has none, and the command writes by it
abbrev pub names_first : StoreCommand → List ℕ → Bool
names_first command [] = writes_by_name command
names_first command (byte ∷ bytes) = false

-- the store has this name, where it gets one, and nothing else has changed
abbrev pub IsNamed : Bool → List ℕ → Trees → Trees → Type 0
IsNamed false name old new = new ≡ old
IsNamed true name old new = WritesByNow name old new

-- the store got a name, and nothing else has changed
abbrev pub IsNewlyNamed : Trees → Trees → Type 0
IsNewlyNamed old new = (name : List ℕ) × WritesByNow name old new

module _ (command : StoreCommand) (before : List ℕ) (input : Input) where
  -- the command is carried out by this name, which the store gets first where it has none and the command writes by it
  pub record CarriesBy (name : List ℕ) (old new : Trees) : Type 0 where
    pub mid : Trees
    pub named : IsNamed (names_first command before) name old mid
    pub carried : Carries command name input mid new

  -- the store got a name, and no more, or the command was carried out by it
  abbrev pub BeginsToCarry : Trees → Trees → Type 0
  BeginsToCarry old new = IsNewlyNamed old new ⊎ ((name : List ℕ) × CarriesBy name old new)
