use Rattle.std.proofs.Common.{arith}
use Rattle.test_trees.proofs.trees.copy.Goals as goal

pub try_clone-requires : goal.try_clone-requires
try_clone-requires c = (omega arith, λ a b h k. cc)
