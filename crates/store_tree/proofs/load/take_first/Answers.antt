use Rattle.std.proofs.Common.{rules, sym, ap, ◌∙◌}
use Rattle.store_file.specs.Logs.{trees_of}
use Rattle.store_file.specs.declared.catalog.TheConstants.{CELLS}
use Rattle.store_file.proofs.Walking.{from_none, gives_none}
use Rattle.store_tree.proofs.load.take_first.Goals as goal

pub returns-then-not-branch-clause-last : goal.returns-then-not-branch-clause-last
returns-then-not-branch-clause-last g c clean _ =
    let old = trees_of g.S.Store c.args.trees.now CELLS in
    let none = rw c.requires.none at (c.in_ok-look.ensures.found clean) in
    ap (λ v. v.trees CELLS) (c.in_ok-look.ensures.same clean) ∙ sym (from_none old) ∙ gives_none _ _ _ (search rules) none
