use Rattle.std.proofs.Common.{rules}
use Rattle.merkle_digest.specs.SipHash.{output}
use Rattle.merkle_digest.proofs.siphash.state.SipState.output.Goals as goal

pub returns : goal.returns
unfolding output
returns c = search rules
