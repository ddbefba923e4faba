use Rattle.std.specs.Prelude.{string_cmp}
use Rattle.std.specs.String.{string_cmp_total}
use Rattle.std.specs.declared.alloc.Global.{Global}
use Rattle.std.proofs.Common.{[], ◌∷◌}
use Rattle.key_order.proofs.Joins.{join_at}
use Rattle.examples.proofs.Outcomes.{on_ok}
use Rattle.examples.specs.RegisterLaws.{exact}
use Rattle.examples.proofs.register.write.Goals as goal

pub returns-clause-latest : goal.returns-clause-latest
returns-clause-latest c = on_ok c.put.result _ _
    (join_at (string_cmp {Z = Global}) string_cmp_total _ _ exact c.args.registers.now.rows ((c.args.name, c.args.register) ∷ []) c.put.new.self.rows) c.put.ensures.joined
