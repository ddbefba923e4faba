use Rattle.std.proofs.Common.{List}
use Rattle.key_order.specs.Text.{Text as Key}
use Rattle.store_file.specs.Reading.{IsWalked}
use Rattle.store_file.specs.declared.register.Register.{Register}
use Rattle.mst_commands.specs.Records.{pairs_text, HasWritten}
use Rattle.mst_commands.proofs.reading.export.Given as goal

-- the rows so far were written as CSV
abbrev pub invariant-rows : goal.invariant-rows
invariant-rows g l = (given : List (Key × Register)) × IsWalked g.S.Store l.fn.log l.log l.walk given × HasWritten g.W.Write.contents l.fn.out l.writer (pairs_text given)
