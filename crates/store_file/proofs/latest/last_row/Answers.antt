use Rattle.std.proofs.Common.{◌≡◌, arith, subst, false, rules}
use Rattle.sqlite_value.specs.Keys.{plain}
use Rattle.sqlite_trees.specs.Tree.{IsIndex}
use Rattle.sqlite_trees.specs.View.{IsShaped}
use Rattle.store_file.specs.Logs.{IsClean, trees_of}
use Rattle.store_file.proofs.LastRow.{last_given, none_given}
use Rattle.store_file.proofs.latest.last_row.Goals as goal

pub returns-then-not-branch-clause-last : goal.returns-then-not-branch-clause-last
returns-then-not-branch-clause-last g c clean =
    let s = g.S.Store in
    let old = c.args.trees.now in
    let first : IsClean s old = omega (arith, c.look.ensures.uncommitted.quiet.clean, clean) in
    let sound : (s.view old).is_broken ≡ false = c.in_ok-look.ensures.sound clean in
    let up : IsIndex plain (trees_of s old 0) = subst (λ shape. IsShaped shape (trees_of s old 0)) (c.requires.table first) (g.met.S.Store.ordered old sound 0) in
    none_given c.args.key.now (trees_of s old 0) _ c.look.new.row _ (search rules) up (c.in_ok-look.ensures.found clean) (search rules)

pub returns-clause-last : goal.returns-clause-last
returns-clause-last g c clean =
    let s = g.S.Store in
    let old = c.args.trees.now in
    let first : IsClean s old = omega (arith, c.look.ensures.uncommitted.quiet.clean, clean) in
    let sound : (s.view old).is_broken ≡ false = c.in_ok-look.ensures.sound clean in
    let up : IsIndex plain (trees_of s old 0) = subst (λ shape. IsShaped shape (trees_of s old 0)) (c.requires.table first) (g.met.S.Store.ordered old sound 0) in
    last_given c.args.key.now (trees_of s old 0) _ c.look.new.row _ c.is_of.result (search rules) up (c.in_ok-look.ensures.found clean) (search rules) c.is_of.ensures
