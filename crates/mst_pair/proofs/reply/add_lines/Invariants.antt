use Rattle.std.proofs.Common.{◌≡◌, ℕ, List, ◌++◌, take}
use Rattle.std.specs.List.{flat_map}
use Rattle.std.specs.Io.KnownBytes.{Appends}
use Rattle.mst_pair.proofs.reply.add_lines.Given as goal

abbrev pub invariant-showing : goal.invariant-showing
invariant-showing g l = record {
  passed : (written : List ℕ) × Appends (g.W.Sink.taken l.initial.writer) (g.W.Sink.taken l.writer) written
      × (l.initial.pending ++ flat_map g.T.ReplyLine.line_text (take l.item-index l.items) ≡ written ++ l.pending);
  works : g.W.Sink.has_failed l.writer ≡ g.W.Sink.has_failed l.initial.writer;
}
