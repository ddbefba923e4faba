use Rattle.std.proofs.Common.{drop, string_bytes}
use Rattle.store_tree_tests.proofs.Rows.{AreLookedAt}
use Rattle.store_tree_tests.proofs.sorted_rows.look_up.Given as goal

abbrev pub invariant-rows : goal.invariant-rows
invariant-rows l = AreLookedAt l.fn.rows (string_bytes l.fn.key) (drop l.own-index l.rows)
