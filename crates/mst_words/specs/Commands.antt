-- What the words of a command line ask for, and what of them is wrong.
use Rattle.std.specs.Prelude.{◌≡◌, ◌+◌, ◌^◌, ◌<◌, ℕ, nat_eq, nat_lt, Bool, true, false, not, ◌&&◌, ◌||◌, ◌==◌, if◌then◌else◌, List, [], ◌∷◌, length, codes, Option, Some, None, Result, Ok, Err, MatchBool, slice_get}
use Rattle.std.specs.List.{position_or_len, before_first, after_first, starts_with}
use Rattle.std.specs.Option.{option_map_or}
use Rattle.std.specs.Str.{bytes_eq}
use Rattle.std.specs.Str.Parse.{IsNumeral, digits_value, without_leading_plus}
use Rattle.mst_words.specs.Forms.{places_of, least_of, place_name, takes}
use Rattle.mst_words.specs.HashKeys.{IsHashKey}
use Rattle.mst_words.specs.Names.{IsVerbOf, IsSettingOf, takes_value}
use Rattle.mst_words.specs.Said.{Word, Said, Reading, Mistake, NoCommand, NoSuchCommand, NoSuchOption, NoValue, HasValue, NoNumber, NoSpan, NoHashKey, LeftOver, Missing, NoLog, begun}
use Rattle.mst_words.specs.Spans.{IsSpan}
use Rattle.mst_words.specs.Tasks.{IsTask}
use Rattle.mst_words.specs.declared.command.Asked.{Asked}
use Rattle.mst_words.specs.declared.command.Asked.TheVariants.{Help, HelpOf, Version, Run}
use Rattle.mst_words.specs.declared.command.Task.{Task}
use Rattle.mst_words.specs.declared.verb.Place.{Place}
use Rattle.mst_words.specs.declared.verb.Place.TheVariants.{Key, Value, Writer, Target}
use Rattle.mst_words.specs.declared.verb.Setting.{Setting}
use Rattle.mst_words.specs.declared.verb.Setting.TheVariants.{From, To, Prefix, Limit, Json, Log, Forget, Ahead, Wait, HashKey as ForHashKey, Absent, Old, Answers, MaxBytes, MaxEntries, Both}
use Rattle.mst_words.specs.declared.verb.Verb.{Verb}

-- the word is the decimal digits of this number of 64 bits, which may stand after a plus
abbrev pub IsDecimal : Word → ℕ → Type 0
IsDecimal word number =
    IsNumeral 10 (without_leading_plus word) × (number ≡ digits_value 10 (without_leading_plus word)) × (number < 2 ^ 64)

-- what is made of the thing that a word is, or this mistake where it is none
abbrev pub ReadsWord : {A B : Type 0} → (Word → A → Type 0) → Word → (A → B) → Mistake → Result B Mistake → Type 0
ReadsWord {A} Is word make wrong (Ok made) = (thing : A) × Is word thing × (made ≡ make thing)
ReadsWord {A} Is word make wrong (Err why) = ((thing : A) → ¬ Is word thing) × (why ≡ wrong)

-- what a word at a place says; the value `-` is read from standard input, unless `--` stands before it
abbrev pub placed : Place → Word → Bool → Said → Said
placed Key word is_behind said = record said { key = word }
placed Value word is_behind said = record said { value = word; is_input = bytes_eq word (codes "-") && not is_behind }
placed Writer word is_behind said = record said { writer = Some word }
placed Target word is_behind said = record said { target = word }

-- what a setting with this value says beside what is said
abbrev pub Sets : Setting → Word → Said → Result Said Mistake → Type 0
Sets From word said result = result ≡ Ok (record said { from = Some word })
Sets To word said result = result ≡ Ok (record said { to = Some word })
Sets Prefix word said result = result ≡ Ok (record said { prefix = Some word })
Sets Limit word said result = ReadsWord IsDecimal word (λ number. record said { limit = Some number }) (NoNumber word) result
Sets Wait word said result = ReadsWord IsDecimal word (λ number. record said { wait = Some number }) (NoNumber word) result
Sets Forget word said result = ReadsWord IsSpan word (λ span. record said { forget = Some span }) (NoSpan word) result
Sets ForHashKey word said result = ReadsWord IsHashKey word (λ key. record said { hash_key = Some key }) (NoHashKey word) result
Sets Json word said result = result ≡ Ok (record said { json = true })
Sets Log word said result = result ≡ Ok (record said { log = true })
Sets Ahead word said result = result ≡ Ok (record said { ahead = true })
Sets Absent word said result = result ≡ Ok (record said { wanted = Some None })
Sets Old word said result = result ≡ Ok (record said { wanted = Some (Some word) })
Sets Answers word said result = result ≡ Ok (record said { answers = true })
Sets Both word said result = result ≡ Ok (record said { both = true })
Sets MaxBytes word said result = ReadsWord IsDecimal word (λ number. record said { max_bytes = Some number }) (NoNumber word) result
Sets MaxEntries word said result = ReadsWord IsDecimal word (λ number. record said { max_entries = Some number }) (NoNumber word) result

-- the same where words were read before
abbrev pub SetsOn : Setting → Word → Reading → Result Reading Mistake → Type 0
SetsOn setting word reading (Ok next) = (said : Said) × Sets setting word reading.said (Ok said) × (next ≡ record reading { said = said })
SetsOn setting word reading (Err why) = Sets setting word reading.said (Err why)

-- the place at which the next word stands has this word, or it is left over
abbrev pub at_place : Option Place → Word → Reading → Result Reading Mistake
at_place None word reading = Err (LeftOver word)
at_place (Some place) word reading =
    Ok (record reading { said = placed place word reading.is_behind reading.said; places = reading.places + 1 })

-- the first word that is no option is the file, and those after it stand at the places of the command
abbrev pub stands : Verb → Option Word → Word → Reading → Result Reading Mistake
stands verb None word reading = Ok (record reading { file = Some word })
stands verb (Some file) word reading = at_place (slice_get (places_of verb) reading.places) word reading

-- whether a word has an equals sign
abbrev pub has_equals : Word → Bool
has_equals word = nat_lt (position_or_len (λ b. b == 61) word) (length word)

-- the name of an option: what stands before the first equals sign
abbrev pub option_name : Word → Word
option_name word = if has_equals word then before_first (λ b. b == 61) word else word

-- its value, where it has an equals sign
abbrev pub option_value : Word → Option Word
option_value word = if has_equals word then Some (after_first (λ b. b == 61) word) else None

-- a setting that has a value, or has none, comes with a value or without one
abbrev pub Comes : Bool → Setting → Word → Option Word → Reading → Result Reading Mistake → Type 0
Comes true setting name (Some value) reading result = SetsOn setting value reading result
Comes true setting name None reading result = result ≡ Ok (record reading { pending = Some setting })
Comes false setting name (Some value) reading result = result ≡ Err (HasValue name)
Comes false setting name None reading result = SetsOn setting name reading result

-- the option of a setting that the command takes, or none that it has
abbrev pub Opts : Verb → Option Setting → Word → Option Word → Reading → Result Reading Mistake → Type 0
Opts verb None name value reading result = result ≡ Err (NoSuchOption name)
Opts verb (Some setting) name value reading result =
    MatchBool (takes verb setting) (Comes (takes_value setting) setting name value reading result) (result ≡ Err (NoSuchOption name))

-- the option that a word is
abbrev pub TakesOption : Verb → Word → Reading → Result Reading Mistake → Type 0
TakesOption verb word reading result =
    (found : Option Setting) × IsSettingOf (option_name word) found × Opts verb found (option_name word) (option_value word) reading result

-- whether a word begins as an option does
abbrev pub is_option : Word → Bool
is_option word = not (bytes_eq word (codes "-")) && starts_with nat_eq word (codes "-")

-- the next word, where no value is to come: after `--` no word is an option
abbrev pub TakesWord : Verb → Word → Reading → Result Reading Mistake → Type 0
TakesWord verb word reading result =
    MatchBool (reading.is_behind || not (is_option word)) (result ≡ stands verb reading.file word reading)
    (MatchBool (bytes_eq word (codes "--")) (result ≡ Ok (record reading { is_behind = true })) (TakesOption verb word reading result))

-- the next word, which is the value of the setting that is to have one
abbrev pub TakesNext : Verb → Option Setting → Word → Reading → Result Reading Mistake → Type 0
TakesNext verb (Some setting) word reading result = SetsOn setting word (record reading { pending = None }) result
TakesNext verb None word reading result = TakesWord verb word reading result

-- whether entries may be ahead of the clock where an import takes no log
abbrev pub is_alone : Verb → Said → Bool
is_alone verb said = said.ahead && (not said.log && takes verb Log)

-- the name of the place that is missing
abbrev pub missing : Verb → ℕ → Mistake
missing verb place = Missing (option_map_or place_name (slice_get (places_of verb) place) (codes "WRITER"))

-- the file and what is said, where the words at places are there
abbrev pub completed : Verb → Word → Reading → Result (Word × Said) Mistake
completed verb file reading =
    if nat_lt reading.places (least_of verb) then Err (missing verb reading.places)
    else (if is_alone verb reading.said then Err (NoLog (codes "--allow-ahead")) else Ok (file, reading.said))

-- the file and what is said, once all words are read
abbrev pub finished : Verb → Option Setting → Option Word → Reading → Result (Word × Said) Mistake
finished verb (Some setting) file reading = Err (NoValue (codes "the last option"))
finished verb None None reading = Err (Missing (codes "FILE"))
finished verb None (Some file) reading = completed verb file reading

-- where a word was taken, the words after it are read, and else its mistake is that of all
abbrev pub ReadsOnAfter : Result Reading Mistake → (Reading → Type 0) → (Mistake → Type 0) → Type 0
ReadsOnAfter (Ok next) Rest Wrong = Rest next
ReadsOnAfter (Err why) Rest Wrong = Wrong why

-- the words of a command are read one by one, up to the first mistake
abbrev pub ReadsWords : Verb → Reading → List Word → Result (Word × Said) Mistake → Type 0
ReadsWords verb reading [] result = result ≡ finished verb reading.pending reading.file reading
ReadsWords verb reading (word ∷ words) result =
    (next : Result Reading Mistake) × TakesNext verb reading.pending word reading next
    × ReadsOnAfter next (λ (to : Reading). ReadsWords verb to words result) (λ why. result ≡ Err why)

-- the words of a command, whose file is known or their first word at a place, give this command on a file
abbrev pub GivesTask : Verb → Option Word → List Word → Result Task Mistake → Type 0
GivesTask verb file words (Ok task) = (at : Word) × (said : Said) × ReadsWords verb (begun file) words (Ok (at, said)) × IsTask task verb at said
GivesTask verb file words (Err why) = ReadsWords verb (begun file) words (Err why)

-- whether a value stands after a word, which is an option of the command
abbrev pub IsBeforeValue : Verb → Word → Bool → Type 0
IsBeforeValue verb word is_before =
    (found : Option Setting) × IsSettingOf word found × (is_before ≡ option_map_or (λ setting. takes verb setting && takes_value setting) found false)

-- whether a word asks for help
abbrev pub is_help : Word → Bool
is_help word = bytes_eq word (codes "--help") || bytes_eq word (codes "-h")

-- a word where an option may stand asks for help, or `--` ends the options, or the words after it say
abbrev pub AsksFrom : Verb → Word → (Bool → Type 0) → Bool → Type 0
AsksFrom verb word Rest result =
    MatchBool (is_help word) (result ≡ true)
    (MatchBool (bytes_eq word (codes "--")) (result ≡ false) ((is_before : Bool) × IsBeforeValue verb word is_before × Rest is_before))

-- whether one of these words, of which the first may be the value of an option, asks for help where an option may stand, before any `--`
abbrev pub AsksHelp : Verb → Bool → List Word → Bool → Type 0
AsksHelp verb is_value [] result = result ≡ false
AsksHelp verb true (word ∷ words) result = AsksHelp verb false words result
AsksHelp verb false (word ∷ words) result = AsksFrom verb word (λ is_before. AsksHelp verb is_before words result) result

-- what the words after the name of a command ask for: its help, or else that it is run with what they give
abbrev pub AsksOf : Verb → List Word → Result Asked Mistake → Type 0
AsksOf verb words (Ok (HelpOf other)) = (other ≡ verb) × AsksHelp verb false words true
AsksOf verb words (Ok (Run task)) = AsksHelp verb false words false × GivesTask verb None words (Ok task)
AsksOf verb words (Err why) = AsksHelp verb false words false × GivesTask verb None words (Err why)
AsksOf verb words (Ok Help) = ⊥
AsksOf verb words (Ok Version) = ⊥

-- the command of the first word, or no command
abbrev pub AsksBy : Option Verb → Word → List Word → Result Asked Mistake → Type 0
AsksBy None name words result = result ≡ Err (NoSuchCommand name)
AsksBy (Some verb) name words result = AsksOf verb words result

-- what a word that names a command and the words after it ask for
abbrev pub AsksNamed : Word → List Word → Result Asked Mistake → Type 0
AsksNamed name words result = (found : Option Verb) × IsVerbOf name found × AsksBy found name words result

-- the help of the command of a name, or no command
abbrev pub AsksHelpBy : Option Verb → Word → Result Asked Mistake → Type 0
AsksHelpBy None name result = result ≡ Err (NoSuchCommand name)
AsksHelpBy (Some verb) name result = result ≡ Ok (HelpOf verb)

-- what the words after `help` ask for: the help of the program, or of the command that the first of them names
abbrev pub AsksHelpOf : List Word → Result Asked Mistake → Type 0
AsksHelpOf [] result = result ≡ Ok Help
AsksHelpOf (name ∷ words) result = (found : Option Verb) × IsVerbOf name found × AsksHelpBy found name result

-- whether it asks for the version
abbrev pub is_version_word : Word → Bool
is_version_word word = bytes_eq word (codes "--version") || bytes_eq word (codes "-V")

-- what the words of a command line ask for, without the name of the program
abbrev pub Asks : List Word → Result Asked Mistake → Type 0
Asks [] result = result ≡ Err NoCommand
Asks (name ∷ words) result =
    MatchBool (is_help name) (result ≡ Ok Help)
    (MatchBool (bytes_eq name (codes "help")) (AsksHelpOf words result)
    (MatchBool (is_version_word name) (result ≡ Ok Version) (AsksNamed name words result)))
