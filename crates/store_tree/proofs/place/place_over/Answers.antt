use Rattle.std.proofs.Common.{◌≡◌, ◌-◌, List, None, refl, ap, subst, arith, rules}
use Rattle.sqlite_value.specs.Order.{Row}
use Rattle.store_file.specs.Logs.{IsClean, trees_of}
use Rattle.store_file.specs.declared.catalog.TheConstants.{CELLS}
use Rattle.store_tree.specs.Pages.{gap_between}
use Rattle.store_tree.specs.Places.{GoesFrom, gap_below}
use Rattle.store_tree.specs.Rows.{bound_bytes}
use Rattle.store_tree.specs.declared.place.Place.{Place}
use Rattle.store_tree.proofs.Placing.{leads_begins, leads_ends, leads_goes, leads_here}
use Rattle.store_tree.proofs.place.place_over.Goals as goal

pub levels-init : goal.levels-init
levels-init g c =
    let s = g.S.Store in
    let place : Place = record { level = c.in_ok-top.field-0; front = None; before = None } in
    record {
      table = search rules;
      few = c.in_ok-top.ensures.few;
      leads = λ clean. leads_begins (gap_between (bound_bytes c.args.after.now) (bound_bytes c.args.before.now)) (trees_of s c.args.trees.now CELLS) place (c.in_ok-top.ensures.top clean) refl refl;
      same = c.in_ok-top.ensures.same;
      uncommitted = c.top.ensures.uncommitted;
    }

pub returns-in-Here-clause-found : goal.returns-in-Here-clause-found
returns-in-Here-clause-found g c clean =
    let s = g.S.Store in
    let mid = c.levels.trees in
    let gap = gap_between (bound_bytes c.args.after.now) (bound_bytes c.args.before.now) in
    let step = c.in_ok-step_from.field-0 in
    let sooner : IsClean s mid = omega (arith, c.step_from.ensures.uncommitted.quiet.clean, clean) in
    let rows : trees_of s mid CELLS ≡ trees_of s c.args.trees.now CELLS = ap (λ v. v.trees CELLS) (c.levels.invariant.same sooner) in
    let goes : GoesFrom gap (trees_of s c.args.trees.now CELLS) c.levels.place step = subst (λ (rs : List Row). GoesFrom gap rs c.levels.place step) rows (c.in_ok-step_from.ensures.goes clean) in
    leads_here gap (trees_of s c.args.trees.now CELLS) c.levels.place step (c.levels.invariant.leads sooner) goes (ap gap_below c.in-Here.is)

pub levels-preserved : goal.levels-preserved
levels-preserved g c =
    let s = g.S.Store in
    let mid = c.levels.trees in
    let new = c.step_from.new.trees in
    let gap = gap_between (bound_bytes c.args.after.now) (bound_bytes c.args.before.now) in
    let step = c.in_ok-step_from.field-0 in
    let early : IsClean s new → IsClean s mid = λ clean. omega (arith, c.step_from.ensures.uncommitted.quiet.clean, clean) in
    let place : Place = record { level = c.levels.place.level - 1; front = c.in-Down.front; before = c.in-Down.before } in
    record {
      table = search rules;
      few = omega (arith, c.levels.invariant.few);
      leads = λ clean.
          let rows : trees_of s mid CELLS ≡ trees_of s c.args.trees.now CELLS = ap (λ v. v.trees CELLS) (c.levels.invariant.same (early clean)) in
          let goes : GoesFrom gap (trees_of s c.args.trees.now CELLS) c.levels.place step =
          subst (λ (rs : List Row). GoesFrom gap rs c.levels.place step) rows (c.in_ok-step_from.ensures.goes clean) in
          leads_goes gap (trees_of s c.args.trees.now CELLS) c.levels.place place step (c.levels.invariant.leads (early clean)) goes (ap gap_below c.in-Down.is) (search rules);
      same = search rules;
      uncommitted = search rules;
    }

pub returns-clause-found : goal.returns-clause-found
returns-clause-found g c clean =
    leads_ends (gap_between (bound_bytes c.args.after.now) (bound_bytes c.args.before.now)) (trees_of g.S.Store c.args.trees.now CELLS) c.levels.place (c.levels.invariant.leads clean) (search rules)
