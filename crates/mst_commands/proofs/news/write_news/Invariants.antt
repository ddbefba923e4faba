use Rattle.std.proofs.Common.{take, flat_map}
use Rattle.std.specs.Io.KnownBytes.{Appends}
use Rattle.mst_commands.specs.News.{news_line}
use Rattle.mst_commands.proofs.news.write_news.Given as goal

-- the lines so far were written
abbrev pub invariant-entries : goal.invariant-entries
invariant-entries g l = Appends (g.W.Write.contents l.initial.out) (g.W.Write.contents l.out) (flat_map (news_line l.json) (take l.entry-index l.entries))
