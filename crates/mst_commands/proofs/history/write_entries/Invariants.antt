use Rattle.std.proofs.Common.{take, flat_map}
use Rattle.std.specs.Io.KnownBytes.{Appends}
use Rattle.mst_commands.specs.History.{history_line}
use Rattle.mst_commands.proofs.history.write_entries.Given as goal

-- the lines so far were written
abbrev pub invariant-entries : goal.invariant-entries
invariant-entries g l = Appends (g.W.Write.contents l.initial.out) (g.W.Write.contents l.out) (flat_map (history_line l.key l.json) (take l.entry-index l.entries))
