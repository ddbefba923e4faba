use Rattle.std.proofs.Common.{◌≡◌, ℕ, List, ◌++◌, take}
use Rattle.std.specs.Io.KnownBytes.{Appends}
use Rattle.mst_pair.specs.Session.{Reached}
use Rattle.mst_pair.proofs.session.Session.feed.Given as goal

abbrev pub invariant-taking : goal.invariant-taking
invariant-taking g l = record {
  reached : (input written : List ℕ) → Reached input written l.initial.self.engine l.initial.self.line →
      (more : List ℕ) × Appends (g.W.Sink.taken l.initial.writer) (g.W.Sink.taken l.writer) more × Reached (input ++ take l.byte-index l.bytes) (written ++ more) l.self.engine l.self.line;
  works : g.W.Sink.has_failed l.writer ≡ g.W.Sink.has_failed l.initial.writer;
}
