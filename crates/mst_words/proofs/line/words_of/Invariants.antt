use Rattle.std.proofs.Common.{◌≡◌, Some}
use Rattle.mst_words.specs.Lines.{line_of, read_all, nothing_read}
use Rattle.mst_words.proofs.line.words_of.Given as goal

-- the characters so far were read
abbrev pub invariant-characters : goal.invariant-characters
invariant-characters l = read_all l.yielded nothing_read ≡ Some (line_of l.reading)
