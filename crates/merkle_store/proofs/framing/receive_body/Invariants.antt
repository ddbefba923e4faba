use Rattle.std.proofs.Common.{◌≡◌, ◌+◌, length}
use Rattle.std.specs.Io.KnownBytes.{Consumes}
use Rattle.merkle_store.proofs.framing.receive_body.Given as goal

-- the body has what was read, and this many bytes are left
abbrev pub invariant-chunks : goal.invariant-chunks
invariant-chunks g l = (length l.body.items + l.left ≡ l.fn.len) × Consumes (g.R.Read.remaining l.fn.from) (g.R.Read.remaining l.from) l.body.items

abbrev pub decreases-chunks : goal.decreases-chunks
decreases-chunks g l = l.left
