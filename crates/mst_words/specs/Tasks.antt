-- The command that words name, and what it takes of what they say.
use Rattle.std.specs.Prelude.{◌≡◌, option_map}
use Rattle.std.specs.Option.{option_copied}
use Rattle.mst_words.specs.Said.{Word, Said, wanted_of}
use Rattle.mst_words.specs.declared.command.Command.{Command}
use Rattle.mst_words.specs.declared.command.Command.TheVariants.{Init, Store, Shell, Serve, Pull, Diff, Backup, Rebuild}
use Rattle.mst_words.specs.declared.command.Limits.{Limits}
use Rattle.mst_words.specs.declared.command.Selection.{Selection}
use Rattle.mst_words.specs.declared.command.StoreCommand.TheVariants.{Table, Root, HashKey}
use Rattle.mst_words.specs.declared.command.TableCommand.{TableCommand}
use Rattle.mst_words.specs.declared.command.TableCommand.TheVariants.{Put, Get, Del, List, Count, History, Status, Check, Import, Export, Compact}
use Rattle.mst_words.specs.declared.command.Task.{Task}
use Rattle.mst_words.specs.declared.verb.Verb.{Verb}
use Rattle.mst_words.specs.declared.verb.Verb.TheVariants as verb

-- these keys are said to be shown
pub record IsSelection (selection : Selection) (said : Said) : Type 0 where
  pub from : option_copied selection.from ≡ said.from
  pub to : option_copied selection.to ≡ said.to
  pub prefix : option_copied selection.prefix ≡ said.prefix
  pub limit : selection.limit ≡ said.limit

-- this is said to be taken of a peer
pub record AreLimits (limits : Limits) (said : Said) : Type 0 where
  pub ahead : limits.ahead ≡ said.ahead
  pub max_bytes : limits.max_bytes ≡ said.max_bytes
  pub max_entries : limits.max_entries ≡ said.max_entries

-- a command on the table has this name, and what it takes is what is said
abbrev pub IsTableCommand : TableCommand → Verb → Said → Type 0
IsTableCommand (Put key value is_input wanted) name said =
    (name ≡ verb.Put) × (key.now ≡ said.key) × (value.now ≡ said.value) × (is_input ≡ said.is_input) × (option_map wanted_of wanted ≡ said.wanted)
IsTableCommand (Get key) name said = (name ≡ verb.Get) × (key.now ≡ said.key)
IsTableCommand (Del key) name said = (name ≡ verb.Del) × (key.now ≡ said.key)
IsTableCommand (List selection json) name said = (name ≡ verb.List) × IsSelection selection said × (json ≡ said.json)
IsTableCommand Count name said = name ≡ verb.Count
IsTableCommand (History key json) name said = (name ≡ verb.History) × (key.now ≡ said.key) × (json ≡ said.json)
IsTableCommand (Status json) name said = (name ≡ verb.Status) × (json ≡ said.json)
IsTableCommand (Check json) name said = (name ≡ verb.Check) × (json ≡ said.json)
IsTableCommand (Import is_log ahead) name said = (name ≡ verb.Import) × (is_log ≡ said.log) × (ahead ≡ said.ahead)
IsTableCommand (Export is_log) name said = (name ≡ verb.Export) × (is_log ≡ said.log)
IsTableCommand (Compact forget) name said = (name ≡ verb.Compact) × (forget ≡ said.forget)

-- a command has this name, and what it takes is what is said
abbrev pub IsCommand : Command → Verb → Said → Type 0
IsCommand (Init writer hash_key) name said = (name ≡ verb.Init) × (option_copied writer ≡ said.writer) × (hash_key ≡ said.hash_key)
IsCommand (Store (Table command)) name said = IsTableCommand command name said
IsCommand (Store Root) name said = name ≡ verb.Root
IsCommand (Store HashKey) name said = name ≡ verb.HashKey
IsCommand (Shell answers) name said = (name ≡ verb.Shell) × (answers ≡ said.answers)
IsCommand (Serve limits both) name said = (name ≡ verb.Serve) × AreLimits limits said × (both ≡ said.both)
IsCommand (Pull limits both) name said = (name ≡ verb.Pull) × AreLimits limits said × (both ≡ said.both)
IsCommand (Diff limits json) name said = (name ≡ verb.Diff) × AreLimits limits said × (json ≡ said.json)
IsCommand (Backup target) name said = (name ≡ verb.Backup) × (target.now ≡ said.target)
IsCommand Rebuild name said = name ≡ verb.Rebuild

-- a command on a file has this name and this file, and what it takes is what is said
pub record IsTask (task : Task) (name : Verb) (at : Word) (said : Said) : Type 0 where
  pub file : task.file.now ≡ at
  pub wait : task.wait ≡ said.wait
  pub command : IsCommand task.command name said
