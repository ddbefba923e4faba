use Rattle.std.proofs.Common.{drop}
use Rattle.store_tree.specs.Pages.{text_gap}
use Rattle.store_tree_tests.proofs.Rows.{ArePassed}
use Rattle.store_tree_tests.proofs.sorted_rows.rows_between.Given as goal

abbrev pub invariant-rows : goal.invariant-rows
invariant-rows l = ArePassed (text_gap l.fn.after l.fn.before) l.fn.rows l.found.items (drop l.key-index l.rows)
