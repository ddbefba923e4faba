use Rattle.std.proofs.Common.{sym, subst}
use Rattle.store_file.specs.Logs.{trees_of}
use Rattle.store_tree.specs.Calls.{CountsKeys}
use Rattle.store_tree.proofs.Outlining.{root_counted}
use Rattle.store_tree.proofs.root.count_keys.Goals as goal

pub returns-clause-count : goal.returns-clause-count
returns-clause-count g c clean =
    let s = g.S.Store in
    let hold = g.P.Pairs.hold c.args.pairs.now in
    let old = trees_of s c.args.trees.now in
    let new = trees_of s c.whole.new.trees in
    subst (CountsKeys hold old new) (sym c.count_in.ensures) (root_counted hold old new c.in_ok-known.known (c.in_ok-known.ensures.root clean))
