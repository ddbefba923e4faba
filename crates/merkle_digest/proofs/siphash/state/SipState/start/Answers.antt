use Rattle.std.proofs.Common.{rules}
use Rattle.merkle_digest.specs.SipHash.{start}
use Rattle.merkle_digest.proofs.siphash.state.SipState.start.Goals as goal

pub returns : goal.returns
unfolding start
returns c = search rules
