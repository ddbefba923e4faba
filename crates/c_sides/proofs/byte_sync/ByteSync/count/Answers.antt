use Rattle.std.proofs.Common.{arith, length, ap}
use Rattle.c_sides.proofs.byte_sync.ByteSync.count.Goals as goal

pub returns : goal.returns
returns c = omega (arith, c.nodes.invariant.left, c.nodes.invariant.fits, ap length c.in-None.ensures.steps.0)
