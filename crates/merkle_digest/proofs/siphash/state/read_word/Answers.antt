use Rattle.std.proofs.Common.{arith}
use Rattle.std.proofs.lemmas.Grind.{common_steps}
use Rattle.merkle_digest.specs.SipHash.{word}
use Rattle.merkle_digest.proofs.siphash.state.read_word.Goals as goal

pub returns : goal.returns
unfolding word
returns c = grind (arith, common_steps)
