use Rattle.merkle_delta.proofs.Cutting.{AreCut}
use Rattle.merkle_delta.proofs.chunks.Chunks.cut.Given as goal

-- the chunks that have ended, and those of the bytes that are left, are all
abbrev pub invariant-bytes : goal.invariant-bytes
invariant-bytes l = AreCut l.bytes.items l.ranges.items l.window l.start l.at
