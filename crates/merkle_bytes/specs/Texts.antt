-- What errors say.
use Rattle.std.specs.Prelude.{ℕ, List, ◌++◌, codes}
use Rattle.std.specs.Fmt.{decimal}
use Rattle.merkle_bytes.specs.declared.error.Expected.{Expected}
use Rattle.merkle_bytes.specs.declared.error.Expected.TheVariants.{Bytes, Count, Text, LastKey, Front, Key, Flag, Kind, Question, PageFormat, Version, Length, Number, End}
use Rattle.merkle_bytes.specs.declared.error.ReadError.{ReadError}
use Rattle.merkle_bytes.specs.declared.error.ReadError.TheVariants.{Memory, Unexpected}

-- what was expected
abbrev pub expected_text : Expected → List ℕ
expected_text (Bytes count) = decimal count ++ codes " bytes more"
expected_text Count = codes "a count in its shortest form"
expected_text Text = codes "a text in UTF-8"
expected_text LastKey = codes "a key that is not below the one before it"
expected_text Front = codes "what a key shares with the one before it, in its shortest form"
expected_text Key = codes "a key"
expected_text Flag = codes "a byte 0 or 1"
expected_text Kind = codes "a kind byte"
expected_text Question = codes "a question"
expected_text PageFormat = codes "a page format byte"
expected_text Version = codes "the version byte"
expected_text Length = codes "a byte string that is as long as the array"
expected_text Number = codes "a number that fits"
expected_text End = codes "the end"

-- why bytes were not read
abbrev pub read_error_text : ReadError → List ℕ
read_error_text Memory = codes "out of memory"
read_error_text (Unexpected offset expected) =
    codes "after " ++ (decimal offset ++ (codes " bytes, expected " ++ expected_text expected))
