use Rattle.std.proofs.Common.{◌≡◌, arith, map, subst, false}
use Rattle.sqlite_value.specs.Keys.{plain}
use Rattle.sqlite_trees.specs.Tree.{IsIndex}
use Rattle.sqlite_trees.specs.View.{IsShaped}
use Rattle.store_file.specs.Entries.{entry_row, HoldsEntries}
use Rattle.store_file.specs.Logs.{IsClean, trees_of}
use Rattle.store_file.proofs.Outcomes.{settled_ok}
use Rattle.store_file.proofs.OrderOfEntries.{ascending_entries}
use Rattle.store_file.proofs.table.read_log.Goals as goal

pub returns-clause-held : goal.returns-clause-held
returns-clause-held g c clean =
    let s = g.S.Store in
    let old = c.args.log.now in
    let mid = c.all_entries-read.new.trees in
    let read = rw c.log.view_is at c.all_entries-read.ensures in
    let early : IsClean s mid → IsClean s old = λ clean. omega (arith, read.uncommitted.quiet.clean, clean) in
    settled_ok (IsClean s) mid c.settled.new.trees c.settled.result c.all_entries-read.result
    (λ entries. trees_of s old 0 ≡ map entry_row entries.items) (λ entries. HoldsEntries (trees_of s old) entries.items) ((s.view old).is_broken ≡ false)
    c.settled.ensures.same c.settled.ensures.kept clean read.found read.sound
    (λ entries is rows sound.
    let tables = (rw c.log.view_is at c.log.invariant).tables (early is) in
    let shaped : IsIndex plain (trees_of s old 0) = subst (λ shape. IsShaped shape (trees_of s old 0)) tables.entries (g.met.S.Store.ordered old sound 0) in
    record { rows = rows; ascending = ascending_entries entries.items (subst (IsIndex plain) rows shaped) })
