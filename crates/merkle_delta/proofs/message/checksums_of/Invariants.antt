use Rattle.std.proofs.Common.{◌≡◌, map, take}
use Rattle.merkle_delta.specs.Chunks.{checksum}
use Rattle.merkle_delta.proofs.message.checksums_of.Given as goal

-- those of the first chunks
abbrev pub invariant-chunks : goal.invariant-chunks
invariant-chunks l = l.checksums.items ≡ map checksum (take l.at l.own)
