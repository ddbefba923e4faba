use Rattle.std.proofs.Common.{◌≡◌, take, true}
use Rattle.merkle_wire.specs.Parts.{HasTold}
use Rattle.merkle_wire.proofs.rows_in.tell_first.Given as goal

-- the first rows are told, and there is room for more
abbrev pub invariant-rows : goal.invariant-rows
invariant-rows g l = (l.count ≡ l.row-index) × HasTold g.K.Encode.encoding g.V.Encode.encoding l.fn.part l.part (take l.row-index l.rows) true
