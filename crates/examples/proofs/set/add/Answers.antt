use Rattle.std.specs.Prelude.{string_cmp}
use Rattle.std.specs.String.{string_cmp_total}
use Rattle.std.specs.declared.alloc.Global.{Global}
use Rattle.std.proofs.Common.{[], ◌∷◌}
use Rattle.key_order.proofs.Joins.{join_has}
use Rattle.examples.proofs.Outcomes.{on_ok}
use Rattle.examples.proofs.set.add.Goals as goal

pub returns-clause-added : goal.returns-clause-added
returns-clause-added c = on_ok c.put.result _ _ (join_has (string_cmp {Z = Global}) string_cmp_total _ _ c.args.names.now.rows ((c.args.name, tt) ∷ []) c.put.new.self.rows) c.put.ensures.joined
