use Rattle.std.proofs.Common.{take}
use Rattle.std.specs.List.{All}
use Rattle.examples.specs.Wire.{HasWideNumber}
use Rattle.examples.proofs.lists.write_rows.Given as goal

-- the first ones keep to what is read
abbrev pub invariant-numbers : goal.invariant-numbers
invariant-numbers l = All (λ row. HasWideNumber row.now) (take l.row-index l.rows)
