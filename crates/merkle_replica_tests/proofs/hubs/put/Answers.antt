use Rattle.std.proofs.Common.{arith}
use Rattle.merkle_replica_tests.proofs.hubs.put.Goals as goal

pub put-requires : goal.put-requires
put-requires c = omega arith
