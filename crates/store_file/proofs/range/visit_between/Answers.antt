use Rattle.std.proofs.Common.{◌≡◌, ◌++◌, ◌∷◌, [], None, Some, false, refl, sym, ap, arith, rules, subst}
use Rattle.key_order.specs.Map.{IsMap}
use Rattle.key_order.specs.Text.{text_order}
use Rattle.std.specs.List.{cons_option}
use Rattle.sqlite_value.specs.Keys.{plain}
use Rattle.sqlite_trees.specs.Tree.{IsIndex, order_of}
use Rattle.sqlite_trees.specs.View.{IsShaped}
use Rattle.store_file.specs.Logs.{IsClean, trees_of}
use Rattle.store_file.specs.Ranges.{AreLatestBetween, TakesBelow}
use Rattle.store_file.proofs.Ranging.{begins, goes_on, ends_all, ends_first}
use Rattle.store_file.proofs.Walking.{uncommitted_then, stays_then}
use Rattle.store_file.proofs.range.visit_between.Goals as goal

pub entries-init : goal.entries-init
entries-init g c =
    let view = g.S.Store.view in
    let old = c.args.trees.now in
    let new = c.seek.new.self in
    let did = c.in_ok-seek.ensures in
    let early : IsClean g.S.Store new → IsClean g.S.Store old = λ clean. omega (arith, c.seek.ensures.quiet.clean, clean) in
    record {
      live = did.live;
      given = [];
      none = λ _. refl;
      took = g.T.RowVisitor.none c.args.visitor.now;
      ranging = λ clean. begins c.args.after.now c.args.before.now (view old) (view new) _ _ (ap order_of (c.requires.table (early clean))) (search rules) refl (did.ok clean);
      sound = λ clean. did.sound clean;
      same = λ clean. search rules;
      uncommitted = record { schema = c.seek.ensures.schema; kept = λ clean. search rules; quiet = c.seek.ensures.quiet };
    }

pub entries-preserved : goal.entries-preserved
entries-preserved g c =
    let s = g.S.Store in
    let old = c.args.trees.now in
    let mid = c.entries.trees in
    let new = c.next_below.new.trees in
    let was = c.entries.invariant in
    let did = c.in_ok-entry.ensures in
    let e = c.in-Some.entry in
    let early : IsClean s new → IsClean s mid = λ clean. omega (arith, c.next_below.ensures.uncommitted.quiet.clean, clean) in
    let first : IsClean s new → IsClean s old = λ clean. omega (arith, was.uncommitted.quiet.clean, early clean) in
    let up : IsClean s new → IsIndex plain (trees_of s old 0) =
    λ clean. subst (λ shape. IsShaped shape (trees_of s old 0)) (c.requires.table (first clean)) (g.met.S.Store.ordered old (was.sound (early clean)) 0) in
    let passed = c.in_ok-hand_on.ensures.passed c.args.visitor.now was.given was.took was.none in
    record {
      live = did.live;
      given = passed.given;
      none = λ gone. absurd (let k = gone in cc);
      took = subst (g.T.RowVisitor.took c.args.visitor.now c.hand_on.new.visitor passed.given) (search rules) passed.took;
      ranging = λ clean. goes_on c.args.after.now c.args.before.now (trees_of s old) (up clean) (was.given ++ cons_option c.entries.last []) (s.view mid) (s.view new)
          (was.ranging (early clean)) (passed.given ++ cons_option (Some e) []) e (subst (TakesBelow c.args.before.now (s.view mid) (s.view new)) c.in-Some.is (did.taken clean)) passed.set;
      sound = λ clean. was.sound (early clean);
      same = λ clean. stays_then (s.view old) (s.view mid) (s.view new) (was.same (early clean)) (did.same clean);
      uncommitted = uncommitted_then s old mid new was.uncommitted c.next_below.ensures.uncommitted;
    }

pub returns-in_default-clause-visited : goal.returns-in_default-clause-visited
returns-in_default-clause-visited g c clean =
    let s = g.S.Store in
    let old = c.args.trees.now in
    let mid = c.entries.trees in
    let new = c.next_below.new.trees in
    let was = c.entries.invariant in
    let rows = was.given ++ cons_option c.entries.last [] in
    let early : IsClean s mid = omega (arith, c.next_below.ensures.uncommitted.quiet.clean, clean) in
    let first : IsClean s old = omega (arith, was.uncommitted.quiet.clean, early) in
    let up : IsIndex plain (trees_of s old 0) = subst (λ shape. IsShaped shape (trees_of s old 0)) (c.requires.table first) (g.met.S.Store.ordered old (was.sound early) 0) in
    let (more, took) = c.in_ok-hand_last.ensures.taken c.args.visitor.now was.given was.took in
    let gone : c.in_ok-entry.field-0 ≡ None = search rules in
    let none : TakesBelow c.args.before.now (s.view mid) (s.view new) None = subst (TakesBelow c.args.before.now (s.view mid) (s.view new)) gone (c.in_ok-entry.ensures.taken clean) in (
      rows,
      more,
      took,
      record {
        all = λ _. ends_all c.args.after.now c.args.before.now (trees_of s old) up rows (s.view mid) (s.view new) (was.ranging early) none;
        first = λ less. absurd (let k = less in cc);
      },
      (λ less. absurd (let k = less in cc)),
    )

pub returns-then-not-branch-clause-visited : goal.returns-then-not-branch-clause-visited
returns-then-not-branch-clause-visited g c clean =
    let s = g.S.Store in
    let old = c.args.trees.now in
    let mid = c.entries.trees in
    let new = c.next_below.new.trees in
    let was = c.entries.invariant in
    let e = c.in-Some.entry in
    let early : IsClean s mid = omega (arith, c.next_below.ensures.uncommitted.quiet.clean, clean) in
    let first : IsClean s old = omega (arith, was.uncommitted.quiet.clean, early) in
    let up : IsIndex plain (trees_of s old 0) = subst (λ shape. IsShaped shape (trees_of s old 0)) (c.requires.table first) (g.met.S.Store.ordered old (was.sound early) 0) in
    let passed = c.in_ok-hand_on.ensures.passed c.args.visitor.now was.given was.took was.none in
    let full = passed.full (search rules) in
    let taken : TakesBelow c.args.before.now (s.view mid) (s.view new) (Some e) = subst (TakesBelow c.args.before.now (s.view mid) (s.view new)) c.in-Some.is (c.in_ok-entry.ensures.taken clean) in
    let took : g.T.RowVisitor.took c.args.visitor.now c.hand_on.new.visitor passed.given false =
    subst (g.T.RowVisitor.took c.args.visitor.now c.hand_on.new.visitor passed.given) (search rules) passed.took in
    let below_e : AreLatestBetween c.args.after.now (Some e.0) (trees_of s old) passed.given =
    subst (AreLatestBetween c.args.after.now (Some e.0) (trees_of s old)) (sym full.1)
    (ends_first c.args.after.now c.args.before.now (trees_of s old) up (was.given ++ cons_option c.entries.last []) (s.view mid) (s.view new) (was.ranging early) e taken
    (subst (λ rows. IsMap text_order (rows ++ e ∷ [])) full.1 (passed.set.ascending (was.ranging early).ascending))) in (
      passed.given,
      false,
      took,
      record { all = λ all. absurd (let k = all in cc); first = λ _. (full.0, (e.0, taken.0, below_e)) },
      (λ less. refl),
    )
