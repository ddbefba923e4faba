use Rattle.std.proofs.Common.{◌≡◌, map, arith, rules, subst, false, List}
use Rattle.sqlite_value.specs.Keys.{plain}
use Rattle.sqlite_value.specs.Order.{Row}
use Rattle.sqlite_trees.specs.Tree.{IsIndex, from_key}
use Rattle.sqlite_trees.specs.View.{IsShaped}
use Rattle.store_file.specs.Logs.{IsClean, trees_of}
use Rattle.store_file.specs.declared.catalog.TheConstants.{CELLS}
use Rattle.store_file.proofs.Walking.{uncommitted_then, stays_then, stays_kept}
use Rattle.store_tree.specs.Rows.{bound_bytes, row_of_cell, start_row}
use Rattle.store_tree.proofs.Scanning.{at_end, cells_more, goes_on, scan_ends, scan_full, scan_stops, with_next, within_more}
use Rattle.store_tree.proofs.seek.scan.Goals as goal

pub returns-then-not-branch-clause-scanned : goal.returns-then-not-branch-clause-scanned
returns-then-not-branch-clause-scanned g c clean =
    let s = g.S.Store in
    let old = c.args.trees.now in
    let was = c.rows.invariant in
    let sooner : IsClean s c.rows.trees = omega (arith, c.next.ensures.quiet.clean, clean) in
    let first : IsClean s old = omega (arith, was.uncommitted.quiet.clean, sooner) in
    let sound : (s.view old).is_broken ≡ false = was.sound sooner in
    let up : IsIndex plain (trees_of s old CELLS) = subst (λ shape. IsShaped shape (trees_of s old CELLS)) (c.requires.table first) (g.met.S.Store.ordered old sound CELLS) in
    let passed = was.passed sooner in
    let given : List Row = from_key plain (start_row c.args.level (bound_bytes c.args.front.now)) (trees_of s old CELLS) in
    scan_ends c.args.level (bound_bytes c.args.front.now) (bound_bytes c.args.before.now) (trees_of s old CELLS) up c.args.most c.rows.cells passed.0 passed.2 was.within
    (at_end given (map row_of_cell c.rows.cells.items) _ _ (s.view c.rows.trees) (s.view c.next.new.self) (search rules) passed (c.in_ok-next.ensures.ok clean))

pub returns-then-not-is_within-clause-scanned : goal.returns-then-not-is_within-clause-scanned
returns-then-not-is_within-clause-scanned g c clean =
    let s = g.S.Store in
    let old = c.args.trees.now in
    let was = c.rows.invariant in
    let sooner : IsClean s c.rows.trees = omega (arith, c.next.ensures.quiet.clean, clean) in
    let first : IsClean s old = omega (arith, was.uncommitted.quiet.clean, sooner) in
    let sound : (s.view old).is_broken ≡ false = was.sound sooner in
    let up : IsIndex plain (trees_of s old CELLS) = subst (λ shape. IsShaped shape (trees_of s old CELLS)) (c.requires.table first) (g.met.S.Store.ordered old sound CELLS) in
    let given : List Row = from_key plain (start_row c.args.level (bound_bytes c.args.front.now)) (trees_of s old CELLS) in
    let on = goes_on given (map row_of_cell c.rows.cells.items) _ _ (s.view c.rows.trees) (s.view c.next.new.self) (search rules) (was.passed sooner) (c.in_ok-next.ensures.ok clean) in
    scan_stops c.args.level (bound_bytes c.args.front.now) (bound_bytes c.args.before.now) (trees_of s old CELLS) up c.args.most c.rows.cells _ on.left on.is was.within (search rules)

pub rows-preserved : goal.rows-preserved
rows-preserved g c =
    let s = g.S.Store in
    let old = c.args.trees.now in
    let mid = c.rows.trees in
    let new = c.next.new.self in
    let was = c.rows.invariant in
    let did = c.in_ok-next.ensures in
    let early : IsClean s new → IsClean s mid = λ clean. omega (arith, c.next.ensures.quiet.clean, clean) in
    let given : List Row = from_key plain (start_row c.args.level (bound_bytes c.args.front.now)) (trees_of s old CELLS) in
    let more : map row_of_cell c.push.new.self.items ≡ _ = cells_more c.rows.cells.items c.in_ok-cell_of.field-0 c.next.new.row c.push.new.self.items c.in_ok-cell_of.ensures (search rules) in
    record {
      live = did.stay 0 was.live;
      passed = λ clean.
          let on = goes_on given (map row_of_cell c.rows.cells.items) _ _ (s.view mid) (s.view new) (search rules) (was.passed (early clean)) (did.ok clean) in
          (on.left, on.cursor, with_next given (map row_of_cell c.rows.cells.items) (map row_of_cell c.push.new.self.items) _ on.left on.is more);
      within = within_more c.args.level (bound_bytes c.args.before.now) (map row_of_cell c.rows.cells.items) (map row_of_cell c.push.new.self.items) _ was.within (search rules) more;
      sound = λ clean. was.sound (early clean);
      same = λ clean. stays_then (s.view old) (s.view mid) (s.view new) (was.same (early clean)) (did.moves clean).same;
      uncommitted = uncommitted_then s old mid new was.uncommitted
          (record { schema = c.next.ensures.schema; kept = λ clean. stays_kept (s.view mid) (s.view new) (did.moves clean).same; quiet = c.next.ensures.quiet });
    }

pub returns-clause-scanned : goal.returns-clause-scanned
returns-clause-scanned g c clean =
    let s = g.S.Store in
    let old = c.args.trees.now in
    let was = c.rows.invariant in
    let first : IsClean s old = omega (arith, was.uncommitted.quiet.clean, clean) in
    let sound : (s.view old).is_broken ≡ false = was.sound clean in
    let up : IsIndex plain (trees_of s old CELLS) = subst (λ shape. IsShaped shape (trees_of s old CELLS)) (c.requires.table first) (g.met.S.Store.ordered old sound CELLS) in
    let passed = was.passed clean in
    scan_full c.args.level (bound_bytes c.args.front.now) (bound_bytes c.args.before.now) (trees_of s old CELLS) up c.args.most c.rows.cells passed.0 passed.2 was.within (λ less. search rules)
