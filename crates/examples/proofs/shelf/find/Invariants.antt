use Rattle.std.proofs.Common.{◌≡◌, drop}
use Rattle.key_order.specs.Map.{get}
use Rattle.examples.proofs.shelf.find.Given as goal

-- the row isn't among those so far
abbrev pub invariant-rows : goal.invariant-rows
invariant-rows g l = get g.K.Ord.cmp l.rows l.key ≡ get g.K.Ord.cmp (drop l.row-index l.rows) l.key
