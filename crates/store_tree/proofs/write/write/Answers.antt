use Rattle.std.proofs.Common.{◌≡◌, arith, subst, false, rules, string_bytes}
use Rattle.sqlite_value.specs.Keys.{plain}
use Rattle.sqlite_trees.specs.Tree.{IsIndex}
use Rattle.sqlite_trees.specs.View.{IsShaped}
use Rattle.store_file.specs.Logs.{IsClean, trees_of}
use Rattle.store_file.specs.declared.catalog.TheConstants.{CELLS}
use Rattle.store_tree.specs.Touches.{TouchesUpto}
use Rattle.store_tree.proofs.Writing.{all_levels}
use Rattle.store_tree.proofs.write.write.Goals as goal

pub returns-clause-written : goal.returns-clause-written
returns-clause-written g c clean =
    let s = g.S.Store in
    let old = c.args.trees.now in
    let sooner : IsClean s c.grow.new.trees = omega (arith, c.touch_all.ensures.uncommitted.quiet.clean, clean) in
    let soon : IsClean s c.top.new.trees = omega (arith, c.grow.ensures.uncommitted.quiet.clean, sooner) in
    let first : IsClean s old = omega (arith, c.top.ensures.uncommitted.quiet.clean, soon) in
    let sound : (s.view old).is_broken ≡ false = c.in_ok-top.ensures.sound soon in
    let up : IsIndex plain (trees_of s old CELLS) = subst (λ shape. IsShaped shape (trees_of s old CELLS)) (c.requires.table first) (g.met.S.Store.ordered old sound CELLS) in
    all_levels c.args.level c.in_ok-top.top _ (string_bytes c.args.key.now) (trees_of s old CELLS) (trees_of s c.grow.new.trees CELLS) (trees_of s c.touch_all.new.trees CELLS) up
    (c.in_ok-top.ensures.top soon)
    (search rules) (search rules)
    (subst (λ on. TouchesUpto (string_bytes c.args.key.now) on c.max-upto.result (trees_of s c.grow.new.trees CELLS) (trees_of s c.touch_all.new.trees CELLS)) c.from-on.ensures
    (c.in_ok-touch_all.ensures.touched clean))
