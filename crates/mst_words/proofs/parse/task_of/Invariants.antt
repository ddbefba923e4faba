use Rattle.std.proofs.Common.{map, drop, string_bytes, Result}
use Rattle.std.specs.Option.{option_copied}
use Rattle.mst_words.specs.Commands.{ReadsWords}
use Rattle.mst_words.specs.Said.{Word, Said, Mistake, begun, reading_of}
use Rattle.mst_words.proofs.parse.task_of.Given as goal

-- what is read of the words that are left is what is read of all
abbrev pub invariant-words : goal.invariant-words
invariant-words l =
    (result : Result (Word × Said) Mistake) → ReadsWords l.verb (reading_of l.taken) (map string_bytes (drop l.word-index l.words)) result
    → ReadsWords l.verb (begun (option_copied l.fn.file)) (map string_bytes l.words) result
