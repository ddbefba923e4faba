use Rattle.std.proofs.Common.{◌-◌, List, subst, arith, rules}
use Rattle.sqlite_value.specs.Order.{Row}
use Rattle.store_file.specs.Logs.{trees_of}
use Rattle.store_file.specs.declared.catalog.TheConstants.{CELLS}
use Rattle.store_tree.specs.Pages.{gap_between}
use Rattle.store_tree.specs.Places.{IsStepBy}
use Rattle.store_tree.specs.Rows.{bound_bytes}
use Rattle.store_tree.specs.declared.cell.Cell.{Cell}
use Rattle.store_tree.proofs.Placing.{goes_from}
use Rattle.store_tree.proofs.place.step_from.Goals as goal

pub returns-clause-goes : goal.returns-clause-goes
returns-clause-goes g c clean =
    let s = g.S.Store in
    let place = c.args.place.now in
    let gap = gap_between (bound_bytes c.args.after.now) (bound_bytes c.args.before.now) in
    let rows : List Row = trees_of s c.args.trees.now CELLS in
    let cells = c.in_ok-cells.cells in
    let step = c.in_ok-step.step in
    let shown : IsStepBy gap (bound_bytes place.before) cells.items step = subst (λ (cs : List Cell). IsStepBy gap (bound_bytes place.before) cs step) c.deref.ensures.value c.in_ok-step.ensures in
    goes_from gap rows place (place.level - 1) 18446744073709551615 cells step (search rules) (search rules) (omega (arith, c.requires.high)) (c.in_ok-cells.ensures.scanned clean) (search rules) shown
