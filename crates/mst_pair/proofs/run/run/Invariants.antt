use Rattle.std.proofs.Common.{◌≡◌, ℕ, List, false}
use Rattle.std.specs.Io.KnownBytes.{Appends, Consumes}
use Rattle.mst_pair.specs.Session.{Reached}
use Rattle.mst_pair.proofs.run.run.Given as goal

abbrev pub invariant-serving : goal.invariant-serving
invariant-serving g l = record {
  reached : (input : List ℕ) × (written : List ℕ) × Consumes (g.S.Source.left l.initial.reader) (g.S.Source.left l.reader) input
      × Appends (g.W.Sink.taken l.initial.writer) (g.W.Sink.taken l.writer) written × Reached input written l.session.engine l.session.line;
  reads : g.S.Source.has_failed l.reader ≡ false;
  works : g.W.Sink.has_failed l.writer ≡ false;
}

abbrev pub decreases-serving : goal.decreases-serving
decreases-serving g l = g.S.Source.reads_left l.reader
