use Rattle.std.proofs.Common.{◌≡◌, ap, arith, subst, ◌∙◌}
use Rattle.sqlite_trees.specs.Tree.{Trees}
use Rattle.sqlite_trees.specs.View.{View}
use Rattle.store_file.specs.Logs.{IsClean, trees_of}
use Rattle.store_file.specs.declared.catalog.TheConstants.{CELLS}
use Rattle.store_tree.specs.Loads.{LoadsKeys}
use Rattle.store_rows.proofs.Reloading.{reloaded}
use Rattle.store_rows.proofs.loading.load_log.Goals as goal

pub returns-clause-kept : goal.returns-clause-kept
returns-clause-kept g c clean =
    let s = g.S.Store in
    let old = trees_of s c.args.trees.now in
    let mid = trees_of s c.latest_between.new.trees in
    let new = trees_of s c.load_keys.new.trees in
    let sooner : IsClean s c.latest_between.new.trees = omega (arith, c.load_keys.ensures.uncommitted.quiet.clean, clean) in
    let stays : mid ≡ old = ap (λ (v : View). v.trees) (c.in_ok-rows.ensures.same sooner) in
    let loads = subst (λ keys. LoadsKeys keys (new CELLS)) (c.deref.ensures.value ∙ c.in_ok-keys.ensures.levels) (c.in_ok-load_keys.ensures.loaded clean) in
    reloaded c.args.hasher.now old new c.in_ok-rows.rows.items (c.in_ok-rows.ensures.latest sooner) loads
    (λ tree other. c.in_ok-load_keys.ensures.others clean tree other ∙ ap (λ (t : Trees). t tree) stays)
