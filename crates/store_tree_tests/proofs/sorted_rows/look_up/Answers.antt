use Rattle.std.proofs.Common.{◌∙◌, rules, string_bytes}
use Rattle.store_tree_tests.proofs.Rows.{looks_on, looks_up}
use Rattle.store_tree_tests.proofs.sorted_rows.look_up.Goals as goal

pub returns-then-eq : goal.returns-then-eq
returns-then-eq c =
    looks_up c.args.rows.now c.rows.own-index c.rows-item.result (string_bytes c.args.key.now) c.rows-test.true c.rows-item.is (search rules) c.rows.invariant
    ∙ search rules

pub rows-preserved : goal.rows-preserved
rows-preserved c =
    looks_on c.args.rows.now c.rows.own-index c.rows-item.result (string_bytes c.args.key.now) c.rows-test.true c.rows-item.is (search rules) c.rows.invariant
