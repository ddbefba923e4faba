use Rattle.std.proofs.Common.{◌≡◌, arith, subst, false, rules, string_bytes}
use Rattle.sqlite_value.specs.Keys.{plain}
use Rattle.sqlite_trees.specs.Tree.{IsIndex}
use Rattle.sqlite_trees.specs.View.{IsShaped}
use Rattle.store_file.specs.Logs.{IsClean, trees_of}
use Rattle.store_file.specs.declared.catalog.TheConstants.{CELLS}
use Rattle.store_tree.proofs.Seeking.{last_given, last_none}
use Rattle.store_tree.proofs.seek.last.Goals as goal

pub returns-then-not-branch-clause-found : goal.returns-then-not-branch-clause-found
returns-then-not-branch-clause-found g c clean =
    let s = g.S.Store in
    let old = c.args.trees.now in
    let first : IsClean s old = omega (arith, c.look_back.ensures.uncommitted.quiet.clean, clean) in
    let sound : (s.view old).is_broken ≡ false = c.in_ok-look_back.ensures.sound clean in
    let up : IsIndex plain (trees_of s old CELLS) = subst (λ shape. IsShaped shape (trees_of s old CELLS)) (c.requires.table first) (g.met.S.Store.ordered old sound CELLS) in
    last_none c.args.level (string_bytes c.args.key.now) (trees_of s old CELLS) _ c.look_back.new.row _ (search rules) up (c.in_ok-look_back.ensures.found clean) (search rules)

pub returns-clause-found : goal.returns-clause-found
returns-clause-found g c clean =
    let s = g.S.Store in
    let old = c.args.trees.now in
    let first : IsClean s old = omega (arith, c.look_back.ensures.uncommitted.quiet.clean, clean) in
    let sound : (s.view old).is_broken ≡ false = c.in_ok-look_back.ensures.sound clean in
    let up : IsIndex plain (trees_of s old CELLS) = subst (λ shape. IsShaped shape (trees_of s old CELLS)) (c.requires.table first) (g.met.S.Store.ordered old sound CELLS) in
    last_given c.args.level (string_bytes c.args.key.now) (trees_of s old CELLS) _ c.look_back.new.row _ c.is_level.result (search rules) up (c.in_ok-look_back.ensures.found clean)
    (search rules) c.is_level.ensures
