use Rattle.std.proofs.Common.{arith}
use Rattle.main_theorem_tests.proofs.random_runs.run_both.Goals as goal

pub converge-requires : goal.converge-requires
converge-requires c = (omega arith, λ x y h. h)
