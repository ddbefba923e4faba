use Rattle.std.proofs.Common.{List}
use Rattle.key_order.specs.Text.{Text as Key}
use Rattle.store_file.specs.Reading.{IsWalked}
use Rattle.store_file.specs.declared.register.Register.{Register}
use Rattle.mst_commands.specs.Reads.{HaveNumbers}
use Rattle.mst_commands.proofs.reading.sum_up.Given as goal

-- these are the numbers of the rows so far
abbrev pub invariant-rows : goal.invariant-rows
invariant-rows g l = (given : List (Key × Register)) × IsWalked g.S.Store l.fn.log l.log l.walk given × HaveNumbers given l.summary
