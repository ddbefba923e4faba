-- What is gone from `rest` was taken, and no error has come.
use Rattle.std.proofs.Common.{◌≡◌, ℕ, List, ◌++◌, length}
use Rattle.std.specs.Io.KnownBytes.{Appends}
use Rattle.mst_pair.proofs.sink.write_all.Given as goal

abbrev pub invariant-writing : goal.invariant-writing
invariant-writing g l = (done : List ℕ) × (l.bytes ≡ done ++ l.rest) × Appends (g.W.Sink.taken l.initial.writer) (g.W.Sink.taken l.writer) done
    × (g.W.Sink.has_failed l.writer ≡ g.W.Sink.has_failed l.initial.writer)

abbrev pub decreases-writing : goal.decreases-writing
decreases-writing g l = length l.rest
