-- What the words of a command line say, as bytes.
use Rattle.std.specs.Prelude.{ℕ, Bool, false, List, [], Option, Some, None, option_map, Result}
use Rattle.std.specs.Option.{option_copied}
use Rattle.std.specs.Result.{result_map_both}
use Rattle.mst_words.specs.declared.command.Wanted.{Wanted}
use Rattle.mst_words.specs.declared.command.Wanted.TheVariants as wanted
use Rattle.mst_words.specs.declared.given.Given.{Given}
use Rattle.mst_words.specs.declared.parse.Taken.{Taken}
use Rattle.mst_words.specs.declared.verb.Setting.{Setting}
use Rattle.mst_words.specs.declared.wrong.Wrong.{Wrong}
use Rattle.mst_words.specs.declared.wrong.Wrong.TheVariants as wrong
use Rattle.std.specs.Borrow.{Bor}

-- a word
abbrev pub Word : Type 0
Word = List ℕ

-- what the words of a command give
pub record Said : Type 0 where
  pub key : Word
  pub value : Word
  pub is_input : Bool
  pub writer : Option Word
  pub target : Word
  pub hash_key : Option (List ℕ)
  pub from : Option Word
  pub to : Option Word
  pub prefix : Option Word
  pub limit : Option ℕ
  pub json : Bool
  pub log : Bool
  pub forget : Option ℕ
  pub ahead : Bool
  pub wait : Option ℕ
  -- what the key has to say, if the write depends on it: nothing, or this text
  pub wanted : Option (Option Word)
  pub answers : Bool
  pub max_bytes : Option ℕ
  pub max_entries : Option ℕ
  pub both : Bool

-- what no words give
abbrev pub nothing_said : Said
nothing_said = record {
  key = [];
  value = [];
  is_input = false;
  writer = None;
  target = [];
  hash_key = None;
  from = None;
  to = None;
  prefix = None;
  limit = None;
  json = false;
  log = false;
  forget = None;
  ahead = false;
  wait = None;
  wanted = None;
  answers = false;
  max_bytes = None;
  max_entries = None;
  both = false;
}

-- how far the words of a command have been read: what they give, the file, how many stood at places after it, the setting whose value is to
-- come, and whether `--` has come
pub record Reading : Type 0 where
  pub said : Said
  pub file : Option Word
  pub places : ℕ
  pub pending : Option Setting
  pub is_behind : Bool

-- no word has been read, and the file is known or to come
abbrev pub begun : Option Word → Reading
begun file = record { said = nothing_said; file = file; places = 0; pending = None; is_behind = false }

-- what is wrong in a command line
pub data Mistake : Type 0 where
  NoCommand : Mistake
  NoSuchCommand : Word → Mistake
  NoSuchOption : Word → Mistake
  NoValue : Word → Mistake
  HasValue : Word → Mistake
  NoNumber : Word → Mistake
  NoSpan : Word → Mistake
  NoHashKey : Word → Mistake
  LeftOver : Word → Mistake
  Missing : Word → Mistake
  NoLog : Word → Mistake
  NotText : Mistake

-- what a key has to say, as bytes
abbrev pub wanted_of : Wanted → Option Word
wanted_of wanted.Absence = None
wanted_of (wanted.Text text) = Some text.now

-- what is given, as bytes
abbrev pub said_of : Given → Said
said_of given = record {
  key = given.key.now;
  value = given.value.now;
  is_input = given.is_input;
  writer = option_copied given.writer;
  target = given.target.now;
  hash_key = given.hash_key;
  from = option_copied given.from;
  to = option_copied given.to;
  prefix = option_copied given.prefix;
  limit = given.limit;
  json = given.json;
  log = given.log;
  forget = given.forget;
  ahead = given.ahead;
  wait = given.wait;
  wanted = option_map wanted_of given.wanted;
  answers = given.answers;
  max_bytes = given.max_bytes;
  max_entries = given.max_entries;
  both = given.both;
}

-- how far words were taken, as bytes
abbrev pub reading_of : Taken → Reading
reading_of taken = record {
  said = said_of taken.given;
  file = option_copied taken.file;
  places = taken.places;
  pending = taken.pending;
  is_behind = taken.is_behind;
}

-- what is wrong, as bytes
abbrev pub mistake_of : Wrong → Mistake
mistake_of wrong.NoCommand = NoCommand
mistake_of (wrong.NoSuchCommand name) = NoSuchCommand name.now
mistake_of (wrong.NoSuchOption name) = NoSuchOption name.now
mistake_of (wrong.NoValue name) = NoValue name.now
mistake_of (wrong.HasValue name) = HasValue name.now
mistake_of (wrong.NoNumber word) = NoNumber word.now
mistake_of (wrong.NoSpan word) = NoSpan word.now
mistake_of (wrong.NoHashKey word) = NoHashKey word.now
mistake_of (wrong.LeftOver word) = LeftOver word.now
mistake_of (wrong.Missing name) = Missing name.now
mistake_of (wrong.NoLog name) = NoLog name.now
mistake_of wrong.NotText = NotText

-- an answer as bytes, by what it is in `Ok`
abbrev pub told : {A B : Type 0} → (A → B) → Result A Wrong → Result B Mistake
told view result = result_map_both view mistake_of result

-- a result whose error is as bytes
abbrev pub with_mistake : {A : Type 0} → Result A Wrong → Result A Mistake
with_mistake result = told (λ it. it) result

-- the file and what is given, as bytes
abbrev pub with_file : Bor (List ℕ) × Given → Word × Said
with_file given = (given.0.now, said_of given.1)
