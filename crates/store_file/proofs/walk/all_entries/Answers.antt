use Rattle.std.proofs.Common.{ap, map, arith, rules}
use Rattle.sqlite_trees.specs.Tree.{order_of}
use Rattle.store_file.specs.Entries.{entry_row}
use Rattle.store_file.specs.Logs.{IsClean, trees_of}
use Rattle.store_file.proofs.Walking.{uncommitted_then, stays_then, stays_kept, sought_all, given_more}
use Rattle.store_file.proofs.walk.all_entries.Goals as goal

pub rows-init : goal.rows-init
rows-init g c =
    let view = g.S.Store.view in
    let old = c.args.trees.now in
    let new = c.seek.new.self in
    let did = c.in_ok-seek.ensures in
    let early : IsClean g.S.Store new → IsClean g.S.Store old = λ clean. omega (arith, c.seek.ensures.quiet.clean, clean) in
    record {
      live = did.live;
      passed = λ clean. rw c.new-entries.ensures.items (sought_all (view old) (view new) 0 _ (ap order_of (c.requires.tables (early clean)).entries) (search rules) (did.ok clean));
      sound = λ clean. did.sound clean;
      same = λ clean. search rules;
      uncommitted = record { schema = c.seek.ensures.schema; kept = λ clean. search rules; quiet = c.seek.ensures.quiet };
    }

pub rows-preserved : goal.rows-preserved
rows-preserved g c =
    let view = g.S.Store.view in
    let old = c.args.trees.now in
    let mid = c.rows.trees in
    let new = c.next.new.self in
    let was = c.rows.invariant in
    let did = c.in_ok-next.ensures in
    let early : IsClean g.S.Store new → IsClean g.S.Store mid = λ clean. omega (arith, c.next.ensures.quiet.clean, clean) in
    record {
      live = did.stay 0 was.live;
      passed = λ clean. given_more (trees_of g.S.Store old 0) (map entry_row c.rows.entries.items) (map entry_row c.push_entry.new.entries.items) _ _
          (view mid) (view new) (search rules) (was.passed (early clean)) (did.ok clean) c.in_ok-push_entry.ensures.pushed;
      sound = λ clean. was.sound (early clean);
      same = λ clean. stays_then (view old) (view mid) (view new) (was.same (early clean)) (did.moves clean).same;
      uncommitted = uncommitted_then g.S.Store old mid new was.uncommitted
          (record { schema = c.next.ensures.schema; kept = λ clean. stays_kept (view mid) (view new) (did.moves clean).same; quiet = c.next.ensures.quiet });
    }
