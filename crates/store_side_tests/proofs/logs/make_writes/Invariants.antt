use Rattle.store_rows.specs.InStep.{StandsInStep}
use Rattle.store_side_tests.proofs.logs.make_writes.Given as goal

abbrev pub invariant-writes : goal.invariant-writes
invariant-writes g l = StandsInStep g.S.Store l.fn.hash_key l.fn.log → StandsInStep g.S.Store l.fn.hash_key l.log
