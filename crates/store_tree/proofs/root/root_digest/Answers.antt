use Rattle.std.proofs.Common.{sym, subst}
use Rattle.store_file.specs.Logs.{trees_of}
use Rattle.store_file.specs.declared.catalog.TheConstants.{CELLS}
use Rattle.store_tree.specs.Calls.{IsRootDigest}
use Rattle.store_tree.proofs.Outlining.{root_told}
use Rattle.store_tree.proofs.Overs.{ForTree}
use Rattle.store_tree.proofs.root.root_digest.Goals as goal

pub returns-clause-root : goal.returns-clause-root
returns-clause-root g c clean =
    let s = g.S.Store in
    let start = c.args.trees.now in
    let Holds = g.P.Pairs.hold c.args.pairs.now (trees_of s start) in
    let old = trees_of s start CELLS in
    let new = trees_of s c.whole.new.trees CELLS in
    subst (λ digest. ForTree Holds old new (IsRootDigest digest)) (sym c.digest_in.ensures) (root_told Holds old new c.in_ok-known.known (c.in_ok-known.ensures.root clean))
