use Rattle.std.proofs.Common.{◌-◌, length}
use Rattle.merkle_delta.proofs.ToldChunks.{AreTold}
use Rattle.merkle_delta.proofs.delta.add_steps.Given as goal

-- the first chunks are told
abbrev pub invariant-chunks : goal.invariant-chunks
invariant-chunks l = AreTold l.checksums l.chunks l.fn.delta.items l.at l.done l.delta.items

abbrev pub decreases-chunks : goal.decreases-chunks
decreases-chunks l = length l.chunks - l.done
