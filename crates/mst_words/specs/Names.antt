-- What commands and settings are called.
use Rattle.std.specs.Prelude.{◌≡◌, ◌≢◌, ℕ, List, Bool, true, false, codes, Option, MatchOption}
use Rattle.mst_words.specs.declared.verb.Verb.{Verb}
use Rattle.mst_words.specs.declared.verb.Verb.TheVariants.{Init, Put, Get, Del, List as ListOf, Count, Root, HashKey, Status, Import, Export, Compact, Shell, Serve, Pull, Diff, Backup, History, Check, Rebuild}
use Rattle.mst_words.specs.declared.verb.Setting.{Setting}
use Rattle.mst_words.specs.declared.verb.Setting.TheVariants.{From, To, Prefix, Limit, Json, Log, Forget, Ahead, Wait, HashKey as ForHashKey, Absent, Old, Answers, MaxBytes, MaxEntries, Both}

-- the name of a command
abbrev pub verb_name : Verb → List ℕ
verb_name Init = codes "init"
verb_name Put = codes "put"
verb_name Get = codes "get"
verb_name Del = codes "del"
verb_name ListOf = codes "list"
verb_name Count = codes "count"
verb_name Root = codes "root"
verb_name HashKey = codes "hash-key"
verb_name Status = codes "status"
verb_name Import = codes "import"
verb_name Export = codes "export"
verb_name Compact = codes "compact"
verb_name Shell = codes "shell"
verb_name Serve = codes "serve"
verb_name Pull = codes "pull"
verb_name Diff = codes "diff"
verb_name Backup = codes "backup"
verb_name History = codes "history"
verb_name Check = codes "check"
verb_name Rebuild = codes "rebuild"

-- the name of a setting
abbrev pub setting_name : Setting → List ℕ
setting_name From = codes "--from"
setting_name To = codes "--to"
setting_name Prefix = codes "--prefix"
setting_name Limit = codes "--limit"
setting_name Json = codes "--json"
setting_name Log = codes "--log"
setting_name Forget = codes "--forget-removals-older-than"
setting_name Ahead = codes "--allow-ahead"
setting_name Wait = codes "--wait"
setting_name ForHashKey = codes "--hash-key"
setting_name Absent = codes "--if-absent"
setting_name Old = codes "--if-value"
setting_name Answers = codes "--answers"
setting_name MaxBytes = codes "--max-bytes"
setting_name MaxEntries = codes "--max-entries"
setting_name Both = codes "--both"

-- the command of this name, or none where no command has it
abbrev pub IsVerbOf : List ℕ → Option Verb → Type 0
IsVerbOf name found = MatchOption found ((verb : Verb) → name ≢ verb_name verb) (λ verb. name ≡ verb_name verb)

-- the setting of this name, or none where no setting has it
abbrev pub IsSettingOf : List ℕ → Option Setting → Type 0
IsSettingOf name found = MatchOption found ((setting : Setting) → name ≢ setting_name setting) (λ setting. name ≡ setting_name setting)

-- whether a value stands after a setting
abbrev pub takes_value : Setting → Bool
takes_value Json = false
takes_value Log = false
takes_value Ahead = false
takes_value Both = false
takes_value Absent = false
takes_value Answers = false
takes_value _ = true
