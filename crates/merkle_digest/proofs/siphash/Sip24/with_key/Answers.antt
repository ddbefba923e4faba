use Rattle.std.proofs.Common.{refl}
use Rattle.merkle_digest.proofs.Absorbing.{Holds_none}
use Rattle.merkle_digest.proofs.siphash.Sip24.with_key.Goals as goal

pub returns : goal.returns
returns c = Holds_none _ c.args.key.now c.start.ensures refl refl
