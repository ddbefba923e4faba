use Rattle.std.proofs.Common.{rules}
use Rattle.merkle_digest.specs.SipHash.{round}
use Rattle.merkle_digest.proofs.siphash.state.SipState.round.Goals as goal

pub returns : goal.returns
unfolding round
returns c = search rules
