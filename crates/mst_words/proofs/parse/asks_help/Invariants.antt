use Rattle.std.proofs.Common.{Bool, false, map, drop, string_bytes}
use Rattle.mst_words.specs.Commands.{AsksHelp}
use Rattle.mst_words.proofs.parse.asks_help.Given as goal

-- what the words that are left ask for is what all ask for
abbrev pub invariant-words : goal.invariant-words
invariant-words l =
    (result : Bool) → AsksHelp l.verb l.is_value (map string_bytes (drop l.word-index l.words)) result
    → AsksHelp l.verb false (map string_bytes l.words) result
