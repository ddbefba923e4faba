use Rattle.std.proofs.Common.{arith}
use Rattle.merkle_replica_tests.proofs.hubs.all_through.Goals as goal

pub catch_up_all-requires : goal.catch_up_all-requires
catch_up_all-requires c = omega arith
