use Rattle.std.proofs.Common.{drop}
use Rattle.store_tree.specs.Pages.{gap_between}
use Rattle.store_tree.specs.Rows.{bound_bytes}
use Rattle.store_tree.proofs.Placing.{ShowsLeft}
use Rattle.store_tree.proofs.place.step_by.Given as goal

abbrev pub invariant-cells : goal.invariant-cells
invariant-cells l = ShowsLeft (gap_between (bound_bytes l.fn.after) (bound_bytes l.fn.before)) (bound_bytes l.fn.ends) l.fn.cells l.cell (drop l.next-index l.next-items)
