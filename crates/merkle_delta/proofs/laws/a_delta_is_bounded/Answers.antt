use Rattle.std.proofs.Common.{length, ap, arith}
use Rattle.std.specs.List.{flat_map}
use Rattle.std.proofs.lemmas.List.{length-append}
use Rattle.merkle_delta.specs.Chunks.{digest_of}
use Rattle.merkle_delta.specs.Deltas.{step_bytes}
use Rattle.merkle_delta.proofs.Stepping.{patched-long}
use Rattle.merkle_delta.proofs.laws.a_delta_is_bounded.Goals as goal

pub returns : goal.returns
returns c chunks delta bytes (steps, over, gives, is) =
    omega (arith, ap length gives, ap length is, length-append (digest_of bytes) (flat_map step_bytes steps), patched-long chunks steps)
