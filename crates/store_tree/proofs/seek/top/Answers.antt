use Rattle.std.proofs.Common.{◌≡◌, arith, subst, false, rules}
use Rattle.sqlite_value.specs.Keys.{plain}
use Rattle.sqlite_trees.specs.Tree.{IsIndex}
use Rattle.sqlite_trees.specs.View.{IsShaped}
use Rattle.store_file.specs.Logs.{IsClean, trees_of}
use Rattle.store_file.specs.declared.catalog.TheConstants.{CELLS}
use Rattle.store_tree.proofs.Seeking.{top_none, top_last}
use Rattle.store_tree.proofs.seek.top.Goals as goal

pub returns-then-not-branch-clause-top : goal.returns-then-not-branch-clause-top
returns-then-not-branch-clause-top g c clean =
    top_none (trees_of g.S.Store c.args.trees.now CELLS) c.look_back.new.row _ c.in_ok-look_back.field-0 (search rules) (c.in_ok-look_back.ensures.found clean) (search rules)

pub returns-clause-top : goal.returns-clause-top
returns-clause-top g c clean =
    let s = g.S.Store in
    let old = c.args.trees.now in
    let first : IsClean s old = omega (arith, c.look_back.ensures.uncommitted.quiet.clean, clean) in
    let sound : (s.view old).is_broken ≡ false = c.in_ok-look_back.ensures.sound clean in
    let up : IsIndex plain (trees_of s old CELLS) = subst (λ shape. IsShaped shape (trees_of s old CELLS)) (c.requires.table first) (g.met.S.Store.ordered old sound CELLS) in
    top_last (trees_of s old CELLS) c.look_back.new.row _ c.in_ok-look_back.field-0 c.in_ok-cell.cell up (search rules) (c.in_ok-look_back.ensures.found clean) (search rules) c.in_ok-cell.ensures
