use Rattle.std.specs.Prelude.{string_cmp}
use Rattle.std.specs.String.{string_cmp_total}
use Rattle.std.specs.declared.alloc.Global.{Global}
use Rattle.key_order.proofs.Joins.{join_has}
use Rattle.examples.proofs.Outcomes.{on_ok, sync_like}
use Rattle.examples.proofs.set.unite.Goals as goal

-- the joins have the names of both
pub returns : goal.returns
returns c =
    let has = join_has (string_cmp {Z = Global}) string_cmp_total _ _ c.args.a.now.rows c.args.b.now.rows in record {
      union = on_ok c.sync.result _ _ (sync_like _ _ _ _ _ c.args.a.now c.args.b.now c.sync.new.a c.sync.new.b (λ answers met turns h. h)
          (λ j. (has c.sync.new.a.rows j.first, has c.sync.new.b.rows j.second))) c.sync.ensures.same;
      stopped = c.sync.ensures.stopped;
      a_settings = c.sync.ensures.a_settings;
      b_settings = c.sync.ensures.b_settings;
    }
