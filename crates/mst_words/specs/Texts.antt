-- What is said of a wrong command line.
use Rattle.std.specs.Prelude.{ℕ, List, ◌++◌, codes}
use Rattle.mst_words.specs.declared.wrong.Wrong.{Wrong}
use Rattle.mst_words.specs.declared.wrong.Wrong.TheVariants.{NoCommand, NoSuchCommand, NoSuchOption, NoValue, HasValue, NoNumber, NoSpan, NoHashKey, LeftOver, Missing, NoLog, NotText}

-- why a command line is wrong
abbrev pub wrong_text : Wrong → List ℕ
wrong_text NoCommand = codes "no command is given"
wrong_text (NoSuchCommand name) = codes "no such command: " ++ name.now
wrong_text (NoSuchOption name) = codes "the command has no option " ++ (name.now ++ codes " (words after -- are never options)")
wrong_text (NoValue name) = name.now ++ codes " needs a value"
wrong_text (HasValue name) = name.now ++ codes " takes no value"
wrong_text (NoNumber word) = word.now ++ codes " isn't a number"
wrong_text (NoSpan word) = word.now ++ codes " isn't a span of time such as 30d, 12h, 15m or 90s"
wrong_text (NoHashKey word) = word.now ++ codes " isn't a hash key: 32 hexadecimal digits"
wrong_text (LeftOver word) = codes "unexpected word: " ++ word.now
wrong_text (Missing name) = name.now ++ codes " is missing"
wrong_text (NoLog name) = name.now ++ codes " needs --log"
wrong_text NotText = codes "a word isn't valid UTF-8"
