use Rattle.std.proofs.Common.{sym, append-nil}
use Rattle.merkle_wire.proofs.taking.take_value.Goals as goal

pub returns-in-None-clause-taken : goal.returns-in-None-clause-taken
returns-in-None-clause-taken g c = rw c.in-None.is (λ _ rows of i. record c.args.work.now { rows = sym (append-nil c.args.work.now.rows) i })

pub returns-in-Some-clause-taken : goal.returns-in-Some-clause-taken
returns-in-Some-clause-taken g c = rw c.in-Some.is c.take_row.ensures.taken
