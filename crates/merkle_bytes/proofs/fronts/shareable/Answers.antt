use Rattle.std.proofs.Common.{arith, sym}
use Rattle.std.proofs.lemmas.List.{take_all}
use Rattle.merkle_bytes.specs.Keys.{shareable}
use Rattle.merkle_bytes.proofs.fronts.shareable.Goals as goal

pub returns-in-Some : goal.returns-in-Some
unfolding shareable
returns-in-Some c = c.in-Some.ensures.cases.1

pub returns-in-None : goal.returns-in-None
unfolding shareable
returns-in-None c = sym (take_all 255 c.args.key.now (omega (arith, c.in-None.ensures.cases)))
