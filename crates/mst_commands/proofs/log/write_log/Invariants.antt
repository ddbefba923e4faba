use Rattle.std.proofs.Common.{take, flat_map}
use Rattle.mst_commands.specs.Records.{entry_text, WritesRecords}
use Rattle.mst_commands.proofs.log.write_log.Given as goal

-- the records of the entries so far were written
abbrev pub invariant-entries : goal.invariant-entries
invariant-entries g l = WritesRecords g.W.Write.contents l.initial.writer l.writer (flat_map entry_text (take l.entry-index l.entries))
