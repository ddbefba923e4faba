use Rattle.std.proofs.Common.{◌≡◌, ◌-◌, arith, subst, false, rules, string_bytes}
use Rattle.sqlite_value.specs.Keys.{plain}
use Rattle.sqlite_trees.specs.Tree.{IsIndex}
use Rattle.sqlite_trees.specs.View.{IsShaped}
use Rattle.store_file.specs.Logs.{IsClean, trees_of}
use Rattle.store_file.specs.declared.catalog.TheConstants.{CELLS}
use Rattle.store_tree.specs.Rows.{with_fronts}
use Rattle.store_tree.proofs.Loading.{adds_key, adds_low, adds_unknown}
use Rattle.store_tree.proofs.load.add.Goals as goal

pub returns-then-level-eq0-clause-added : goal.returns-then-level-eq0-clause-added
returns-then-level-eq0-clause-added g c clean = adds_low c.args.level (string_bytes c.args.key.now) (trees_of g.S.Store c.args.trees.now CELLS) (search rules)

pub returns-clause-added : goal.returns-clause-added
returns-clause-added g c clean =
    let s = g.S.Store in
    let old = c.args.trees.now in
    let mid = trees_of s c.grow.new.trees CELLS in
    let new = trees_of s c.begin.new.trees CELLS in
    let sooner : IsClean s c.grow.new.trees = omega (arith, c.begin.ensures.uncommitted.quiet.clean, clean) in
    let soon : IsClean s c.top.new.trees = omega (arith, c.grow.ensures.uncommitted.quiet.clean, sooner) in
    let first : IsClean s old = omega (arith, c.top.ensures.uncommitted.quiet.clean, soon) in
    let sound : (s.view old).is_broken ≡ false = c.in_ok-top.ensures.sound soon in
    let up : IsIndex plain (trees_of s old CELLS) = subst (λ shape. IsShaped shape (trees_of s old CELLS)) (c.requires.table first) (g.met.S.Store.ordered old sound CELLS) in
    adds_key c.args.level c.in_ok-top.top c.max-upto.result (string_bytes c.args.key.now) (trees_of s old CELLS) mid new up (c.in_ok-top.ensures.top soon) (search rules) (search rules)
    (subst (λ on. new ≡ with_fronts (string_bytes c.args.key.now) on mid) c.from-on.ensures (c.in_ok-begin.ensures.begun clean))

pub returns-clause-unknown : goal.returns-clause-unknown
returns-clause-unknown g c clean =
    let s = g.S.Store in
    let old = trees_of s c.args.trees.now CELLS in
    let mid = trees_of s c.grow.new.trees CELLS in
    let new = trees_of s c.begin.new.trees CELLS in
    let sooner : IsClean s c.grow.new.trees = omega (arith, c.begin.ensures.uncommitted.quiet.clean, clean) in
    adds_unknown c.from-on.result c.in_ok-top.top (c.max-upto.result - c.in_ok-top.top) (string_bytes c.args.key.now) old mid new (search rules) (c.in_ok-begin.ensures.begun clean)
