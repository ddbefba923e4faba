use Rattle.std.proofs.Common.{arith}
use Rattle.store_file.specs.Logs.{IsClean, trees_of}
use Rattle.store_file.specs.declared.catalog.TheConstants.{CELLS}
use Rattle.store_tree.proofs.Loading.{no_keys, no_keys_unknown}
use Rattle.store_tree.proofs.load.clear.Goals as goal

pub returns-clause-cleared : goal.returns-clause-cleared
returns-clause-cleared g c clean =
    let s = g.S.Store in
    let sooner : IsClean s c.take_all.new.trees = omega (arith, c.grow.ensures.uncommitted.quiet.clean, clean) in
    no_keys (trees_of s c.take_all.new.trees CELLS) (trees_of s c.grow.new.trees CELLS) (c.in_ok-take_all.ensures.taken sooner) (c.in_ok-grow.ensures.grown clean)

pub returns-clause-unknown : goal.returns-clause-unknown
returns-clause-unknown g c clean =
    let s = g.S.Store in
    let sooner : IsClean s c.take_all.new.trees = omega (arith, c.grow.ensures.uncommitted.quiet.clean, clean) in
    no_keys_unknown (trees_of s c.take_all.new.trees CELLS) (trees_of s c.grow.new.trees CELLS) (c.in_ok-take_all.ensures.taken sooner) (c.in_ok-grow.ensures.grown clean)
