-- What stands after each command.
use Rattle.std.specs.Prelude.{ℕ, Bool, true, false, List, [], ◌∷◌, codes}
use Rattle.mst_words.specs.declared.verb.Place.{Place}
use Rattle.mst_words.specs.declared.verb.Place.TheVariants.{Key, Value, Writer, Target}
use Rattle.mst_words.specs.declared.verb.Setting.{Setting}
use Rattle.mst_words.specs.declared.verb.Setting.TheVariants.{From, To, Prefix, Limit, Json, Log, Forget, Ahead, Wait, HashKey as ForHashKey, Absent, Old, Answers, MaxBytes, MaxEntries, Both}
use Rattle.mst_words.specs.declared.verb.Verb.{Verb}
use Rattle.mst_words.specs.declared.verb.Verb.TheVariants.{Init, Put, Get, Del, List as ListOf, Import, Export, Compact, Shell, Serve, Pull, Diff, Backup, History, Status, Check}

-- what stands at each place after the file
abbrev pub places_of : Verb → List Place
places_of Init = Writer ∷ []
places_of Put = Key ∷ Value ∷ []
places_of Get = Key ∷ []
places_of Del = Key ∷ []
places_of Backup = Target ∷ []
places_of History = Key ∷ []
places_of _ = []

-- how many of the places have to be there
abbrev pub least_of : Verb → ℕ
least_of Init = 0
least_of Put = 2
least_of Get = 1
least_of Del = 1
least_of Backup = 1
least_of History = 1
least_of _ = 0

-- what a place is called
abbrev pub place_name : Place → List ℕ
place_name Key = codes "KEY"
place_name Value = codes "VALUE"
place_name Writer = codes "WRITER"
place_name Target = codes "TO"

-- whether a list shows fewer keys, or shows them otherwise, by a setting
abbrev pub is_of_list : Setting → Bool
is_of_list From = true
is_of_list To = true
is_of_list Prefix = true
is_of_list Limit = true
is_of_list Json = true
is_of_list Wait = true
is_of_list _ = false

-- whether a command takes a setting
abbrev pub takes : Verb → Setting → Bool
takes Init ForHashKey = true
takes Init _ = false
takes ListOf setting = is_of_list setting
takes Import Log = true
takes Import Ahead = true
takes Export Log = true
takes Compact Forget = true
takes Pull Ahead = true
takes Diff Ahead = true
takes Put Absent = true
takes Put Old = true
takes Shell Answers = true
takes History Json = true
takes Status Json = true
takes Check Json = true
takes Diff Json = true
takes Serve Ahead = true
takes Serve Both = true
takes Serve MaxBytes = true
takes Serve MaxEntries = true
takes Pull Both = true
takes Pull MaxBytes = true
takes Pull MaxEntries = true
takes Diff MaxBytes = true
takes Diff MaxEntries = true
takes _ Wait = true
takes _ _ = false
