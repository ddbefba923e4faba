use Rattle.std.proofs.Common.{[], ◌∷◌, ◌++◌, ap, arith, refl, rules}
use Rattle.sqlite_trees.specs.Tree.{order_of}
use Rattle.store_file.specs.Logs.{IsClean, trees_of}
use Rattle.store_file.proofs.SiftLemmas.{none_sifted, sifted_more}
use Rattle.store_file.proofs.Walking.{uncommitted_then, stays_then, stays_kept, sought_all, given_more}
use Rattle.store_file.proofs.sifting.sift_all.Goals as goal

pub rows-init : goal.rows-init
rows-init g c =
    let view = g.S.Store.view in
    let old = c.args.trees.now in
    let new = c.seek.new.self in
    let did = c.in_ok-seek.ensures in
    let early : IsClean g.S.Store new → IsClean g.S.Store old = λ clean. omega (arith, c.seek.ensures.quiet.clean, clean) in
    record {
      live = did.live;
      passed = λ clean. (
        [],
        sought_all (view old) (view new) 0 _ (ap order_of (c.requires.tables (early clean)).entries) (search rules) (did.ok clean),
        rw (c.new-entries.ensures.items, c.new-bad.ensures.items) none_sifted,
      );
      sound = λ clean. did.sound clean;
      same = λ clean. search rules;
      uncommitted = record { schema = c.seek.ensures.schema; kept = λ clean. search rules; quiet = c.seek.ensures.quiet };
    }

pub rows-preserved : goal.rows-preserved
rows-preserved g c =
    let view = g.S.Store.view in
    let old = c.args.trees.now in
    let mid = c.rows.trees in
    let new = c.next.new.self in
    let was = c.rows.invariant in
    let did = c.in_ok-next.ensures in
    let early : IsClean g.S.Store new → IsClean g.S.Store mid = λ clean. omega (arith, c.next.ensures.quiet.clean, clean) in
    record {
      live = did.stay 0 was.live;
      passed = λ clean.
          let before = was.passed (early clean) in (
            before.0 ++ c.next.new.row ∷ [],
            given_more (trees_of g.S.Store old 0) before.0 (before.0 ++ c.next.new.row ∷ []) c.next.new.row _ (view mid) (view new) (search rules) before.1 (did.ok clean) refl,
            sifted_more before.0 c.next.new.row _ _ _ _ before.2 c.in_ok-take_in.ensures.taken,
          );
      sound = λ clean. was.sound (early clean);
      same = λ clean. stays_then (view old) (view mid) (view new) (was.same (early clean)) (did.moves clean).same;
      uncommitted = uncommitted_then g.S.Store old mid new was.uncommitted
          (record { schema = c.next.ensures.schema; kept = λ clean. stays_kept (view mid) (view new) (did.moves clean).same; quiet = c.next.ensures.quiet });
    }
