use Rattle.std.proofs.Common.{◌≡◌, ◌<◌, take}
use Rattle.std.specs.Prelude.{◌^◌}
use Rattle.merkle_digest.specs.SipHash.{word}
use Rattle.merkle_digest.proofs.siphash.read_part.Given as goal

-- the word of the first i bytes
abbrev pub invariant-bytes : goal.invariant-bytes
invariant-bytes l = record {
  below : l.word < 256 ^ l.i;
  read : l.word ≡ word (take l.i l.bytes);
}
