use Rattle.std.proofs.Common.{◌≡◌, ◌+◌, ℕ, List, ◌∷◌, length}
use Rattle.mst_commands.specs.Records.{header, HasRead, SayEntries}
use Rattle.mst_commands.proofs.records.parse_entries.Given as goal

-- the records after the header that were read so far say the entries
abbrev pub invariant-records : goal.invariant-records
invariant-records g l =
    (records : List (List (List ℕ))) × HasRead g.R.Read.remaining (g.R.Read.remaining l.fn.from) (header l.is_log ∷ records) l.reader
    × SayEntries l.is_log 1 records l.entries.items × (l.number ≡ 1 + length records)
