use Rattle.std.proofs.Common.{◌≡◌, ◌-◌, List, ◌∷◌, length, drop, take, sym, ap, subst, ◌∙◌, arith, rules}
use Rattle.sqlite_value.specs.Order.{Row}
use Rattle.sqlite_trees.specs.Tree.{Trees}
use Rattle.store_file.specs.Logs.{IsClean, trees_of}
use Rattle.store_file.specs.declared.catalog.TheConstants.{CELLS}
use Rattle.store_tree.specs.Cells.{KeyDigests}
use Rattle.store_tree.specs.Rows.{IsTop, rows_between}
use Rattle.store_tree.specs.Tables.{IsScan}
use Rattle.store_tree.specs.declared.cell.Cell.{Cell}
use Rattle.store_tree.proofs.Filling.{cell_weaker, first_rest, root_filled, root_none}
use Rattle.store_tree.proofs.fill.whole.Goals as goal
use Rattle.std.proofs.Common.{None}

pub returns-then-level-eq0-clause-root : goal.returns-then-level-eq0-clause-root
returns-then-level-eq0-clause-root g c clean =
    let s = g.S.Store in
    let old : List Row = trees_of s c.args.trees.now CELLS in
    let level : c.in_ok-level.level ≡ 0 = search rules in
    root_none (g.P.Pairs.hold c.args.pairs.now (trees_of s c.args.trees.now)) old (trees_of s c.top.new.trees CELLS) (subst (IsTop old) level (c.in_ok-level.ensures.top clean))
    (ap (λ v. v.trees CELLS) (c.in_ok-level.ensures.same clean))

pub returns-clause-root : goal.returns-clause-root
returns-clause-root g c clean =
    let s = g.S.Store in
    let start = c.args.trees.now in
    let seen = c.top.new.trees in
    let mid = c.scan.new.trees in
    let pairs = c.args.pairs.now in
    let Holds = g.P.Pairs.hold pairs (trees_of s start) in
    let level = c.in_ok-level.level in
    let cells = c.in_ok-cells.cells in
    let cell = c.in-Some.cell.now in
    let later : IsClean s mid = omega (arith, c.fill_cell.ensures.uncommitted.quiet.clean, clean) in
    let sooner : IsClean s seen = omega (arith, c.scan.ensures.uncommitted.quiet.clean, later) in
    let first : trees_of s seen ≡ trees_of s start = ap (λ v. v.trees) (c.in_ok-level.ensures.same sooner) in
    let same : trees_of s mid ≡ trees_of s start = ap (λ v. v.trees) (c.in_ok-cells.ensures.same later) ∙ first in
    let scanned : IsScan 1 (rows_between level None None (trees_of s start CELLS)) cells =
    subst (λ (trees : Trees). IsScan 1 (rows_between level None None (trees CELLS)) cells) first (c.in_ok-cells.ensures.scanned later) in
    let rest : List Cell = take (length c.deref.result.now - 1) (drop 1 c.deref.result.now) in
    let some : cells.items ≡ cell ∷ rest = sym c.deref.ensures.value ∙ first_rest c.deref.result.now cell (search rules) in
    let to_mid : (m : KeyDigests) → Holds m → g.P.Pairs.hold pairs (trees_of s mid) m = λ m held. subst (λ (trees : Trees). g.P.Pairs.hold pairs trees m) (sym same) held in
    root_filled Holds (trees_of s start CELLS) (trees_of s mid CELLS) (trees_of s c.fill_cell.new.trees CELLS) level cells cell rest c.in_ok-known.known (c.in_ok-level.ensures.top sooner)
    (search rules) (ap (λ trees. trees CELLS) same) some scanned
    (cell_weaker Holds (g.P.Pairs.hold pairs (trees_of s mid)) to_mid (trees_of s mid CELLS) (trees_of s c.fill_cell.new.trees CELLS) level cell None c.in_ok-known.known
    (c.in_ok-known.ensures.filled clean))
