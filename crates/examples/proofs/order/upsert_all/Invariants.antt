use Rattle.std.proofs.Common.{take}
use Rattle.examples.specs.Order.{HasUpserted}
use Rattle.examples.proofs.order.upsert_all.Given as goal

abbrev pub invariant-rows : goal.invariant-rows
invariant-rows l = HasUpserted (take l.row-index l.rows) l.tree
