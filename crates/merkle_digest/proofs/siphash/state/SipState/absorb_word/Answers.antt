use Rattle.std.proofs.Common.{rules}
use Rattle.merkle_digest.specs.SipHash.{absorb_word}
use Rattle.merkle_digest.proofs.siphash.state.SipState.absorb_word.Goals as goal

pub returns : goal.returns
unfolding absorb_word
returns c = search rules
