use Rattle.std.proofs.Common.{◌≡◌, ◌∙◌, ◌+◌, ◌-◌, ℕ, suc, false, List, [], ◌∷◌, length, drop, take, sym, ap, subst, refl, arith, rules}
use Rattle.std.proofs.lemmas.List.{drop_all}
use Rattle.sqlite_value.specs.Keys.{plain}
use Rattle.sqlite_value.specs.Order.{Row}
use Rattle.sqlite_trees.specs.Tree.{IsIndex, Trees}
use Rattle.sqlite_trees.specs.View.{IsShaped}
use Rattle.store_file.specs.Logs.{IsClean, trees_of}
use Rattle.store_file.specs.declared.catalog.TheConstants.{CELLS}
use Rattle.store_tree.specs.Cells.{KeyDigests}
use Rattle.store_tree.specs.Filling.{FillsCell, FillsNodes, FillsPage, IsNodeAt, Keeps, front_of}
use Rattle.store_tree.specs.Rows.{bound_bytes, rows_between}
use Rattle.store_tree.specs.Tables.{HasCells, IsScan, KeepsOthers}
use Rattle.store_tree.specs.declared.cell.Cell.{Cell}
use Rattle.store_tree.specs.declared.page.Page.{Page}
use Rattle.store_tree.proofs.Filling.{SoFar, all_known_filled, cell_filled, cell_weaker, first_rest, leaf_filled, next_rest, nodes_weaker, page_filled, so_far_begins, so_far_ends, so_far_goes}
use Rattle.store_tree.proofs.fill.+fill.Goals as goal

pub fill_cell-returns-in-Some-clause-filled : goal.fill_cell-returns-in-Some-clause-filled
fill_cell-returns-in-Some-clause-filled g t c clean =
    let s = g.S.Store in
    all_known_filled (g.P.Pairs.hold c.args.pairs.now (trees_of s c.args.trees.now)) (trees_of s c.args.trees.now CELLS) c.args.level c.args.cell.now
    (bound_bytes c.args.before.now) c.all_known.result c.in-Some.known c.all_known.ensures c.in-Some.is

pub fill_cell-returns-clause-filled : goal.fill_cell-returns-clause-filled
fill_cell-returns-clause-filled g t c clean =
    let s = g.S.Store in
    let mid = c.page_below.new.trees in
    let Holds : KeyDigests → Type 0 = g.P.Pairs.hold c.args.pairs.now (trees_of s c.args.trees.now) in
    let old : List Row = trees_of s c.args.trees.now CELLS in
    let new : List Row = trees_of s c.keep.new.trees CELLS in
    let front = front_of c.args.cell.now in
    let before = bound_bytes c.args.before.now in
    let below = c.in-Ok.below in
    let later : IsClean s mid = omega (arith, c.keep.ensures.uncommitted.quiet.clean, clean) in
    let first : IsClean s c.args.trees.now = omega (arith, c.page_below.ensures.uncommitted.quiet.clean, later) in
    let sound : (s.view mid).is_broken ≡ false = c.in_ok-keep.ensures.sound clean in
    let table : HasCells (s.view mid) = ap (λ shape. shape CELLS) c.page_below.ensures.uncommitted.schema.shape ∙ c.requires.table first in
    let up : IsIndex plain (trees_of s mid CELLS) = subst (λ shape. IsShaped shape (trees_of s mid CELLS)) table (g.met.S.Store.ordered mid sound CELLS) in
    let level : suc below ≡ c.args.level = search rules in
    let kept : Keeps (suc below) front before c.in_ok-known.known (trees_of s mid CELLS) new =
    subst (λ l. Keeps l front before c.in_ok-known.known (trees_of s mid CELLS) new) (sym level) (c.in_ok-keep.ensures.kept clean) in
    subst (λ l. FillsCell Holds old new l c.args.cell.now before c.in_ok-known.known) level
    (cell_filled Holds old (trees_of s mid CELLS) new below c.args.cell.now before c.in_ok-page.page c.in_ok-known.known up (search rules)
    (c.in_ok-page.ensures.filled later) c.in_ok-known.ensures kept)

pub nodes_of-cells-init : goal.nodes_of-cells-init
nodes_of-cells-init g t c =
    let s = g.S.Store in
    let rows : List Row = trees_of s c.args.trees.now CELLS in
    let Holds : KeyDigests → Type 0 = g.P.Pairs.hold c.args.pairs.now (trees_of s c.args.trees.now) in
    let first = c.in-Some.first.now in
    let rest : List Cell = take (length c.args.cells.now - 1) (drop 1 c.args.cells.now) in
    record {
      table = c.requires.table;
      filled = λ clean. subst (λ ns. SoFar Holds rows rows c.args.level c.args.cells.now (bound_bytes c.args.before.now) ns first rest) (sym c.new-nodes.ensures.items)
          (so_far_begins Holds rows rows c.args.level c.args.cells.now (bound_bytes c.args.before.now) first rest refl (first_rest c.args.cells.now first (search rules)));
      others = λ clean tree other. refl;
      uncommitted = search rules;
    }

pub nodes_of-cells-preserved : goal.nodes_of-cells-preserved
nodes_of-cells-preserved g t c =
    let s = g.S.Store in
    let start = c.args.trees.now in
    let mid = c.cells.trees in
    let filled = c.fill_cell.new.trees in
    let new = c.node_at.new.trees in
    let was = c.cells.invariant in
    let pairs = c.args.pairs.now in
    let Holds : KeyDigests → Type 0 = g.P.Pairs.hold pairs (trees_of s start) in
    let before = bound_bytes c.args.before.now in
    let level = c.args.level in
    let next = c.next-item.result in
    let list : List Cell = take (length c.args.cells.now - 1) (drop 1 c.args.cells.now) in
    let later : IsClean s new → IsClean s filled = λ clean. omega (arith, c.node_at.ensures.uncommitted.quiet.clean, clean) in
    let early : IsClean s new → IsClean s mid = λ clean. omega (arith, c.fill_cell.ensures.uncommitted.quiet.clean, later clean) in
    let same : IsClean s new → trees_of s new ≡ trees_of s filled = λ clean. ap (λ v. v.trees) (c.in_ok-node.ensures.same clean) in
    let others_mid : IsClean s new → KeepsOthers (trees_of s start) (trees_of s filled) =
    λ clean tree other. c.in_ok-known.ensures.others (later clean) tree other ∙ was.others (early clean) tree other in
    record {
      table = search rules;
      filled = λ clean.
          let before_it : SoFar Holds (trees_of s start CELLS) (trees_of s mid CELLS) level c.args.cells.now before c.cells.nodes.items c.cells.cell.now (next ∷ drop (c.cells.next-index + 1) list) =
          subst (SoFar Holds (trees_of s start CELLS) (trees_of s mid CELLS) level c.args.cells.now before c.cells.nodes.items c.cells.cell.now)
          (next_rest list c.cells.next-index next (search rules) c.next-item.is) (was.filled (early clean)) in
          let to_mid : (m : KeyDigests) → Holds m → g.P.Pairs.hold pairs (trees_of s mid) m = λ m held. g.P.Pairs.stay pairs (trees_of s start) (trees_of s mid) m (was.others (early clean)) held in
          let to_filled : (m : KeyDigests) → Holds m → g.P.Pairs.hold pairs (trees_of s filled) m = λ m held. g.P.Pairs.stay pairs (trees_of s start) (trees_of s filled) m (others_mid clean) held in
          let cell_done : FillsCell Holds (trees_of s mid CELLS) (trees_of s new CELLS) level c.cells.cell.now (front_of next) c.in_ok-known.known =
          subst (λ (rows : List Row). FillsCell Holds (trees_of s mid CELLS) rows level c.cells.cell.now (front_of next) c.in_ok-known.known) (sym (ap (λ trees. trees CELLS) (same clean)))
          (cell_weaker Holds (g.P.Pairs.hold pairs (trees_of s mid)) to_mid (trees_of s mid CELLS) (trees_of s filled CELLS) level c.cells.cell.now (front_of next) c.in_ok-known.known
          (c.in_ok-known.ensures.filled (later clean))) in
          let node = c.in_ok-node.ensures.node clean in
          let node_is : IsNodeAt Holds c.in_ok-known.known (front_of next) c.in_ok-node.node = record { key = node.key; before = node.before; digest = λ m held. node.digest m (to_filled m held) } in
          so_far_goes Holds (trees_of s start CELLS) (trees_of s mid CELLS) (trees_of s new CELLS) level c.args.cells.now before c.cells.nodes.items c.push.new.self.items c.cells.cell.now next
          (drop (c.cells.next-index + 1) list)
          c.in_ok-known.known c.in_ok-node.node before_it cell_done node_is (search rules);
      others = λ clean tree other. ap (λ trees. trees tree) (same clean) ∙ others_mid clean tree other;
      uncommitted = search rules;
    }

pub nodes_of-returns-clause-filled : goal.nodes_of-returns-clause-filled
nodes_of-returns-clause-filled g t c clean =
    let s = g.S.Store in
    let start = c.args.trees.now in
    let mid = c.cells.trees in
    let new = c.fill_cell-2.new.trees in
    let was = c.cells.invariant in
    let pairs = c.args.pairs.now in
    let Holds : KeyDigests → Type 0 = g.P.Pairs.hold pairs (trees_of s start) in
    let before = bound_bytes c.args.before.now in
    let level = c.args.level in
    let list : List Cell = take (length c.args.cells.now - 1) (drop 1 c.args.cells.now) in
    let early : IsClean s mid = omega (arith, c.fill_cell-2.ensures.uncommitted.quiet.clean, clean) in
    let page : Page = record { nodes = c.cells.nodes; last = c.in_ok-last.last } in
    let over : drop c.cells.next-index list ≡ [] = drop_all c.cells.next-index list (search rules) in
    let to_mid : (m : KeyDigests) → Holds m → g.P.Pairs.hold pairs (trees_of s mid) m = λ m held. g.P.Pairs.stay pairs (trees_of s start) (trees_of s mid) m (was.others early) held in
    so_far_ends Holds (trees_of s start CELLS) (trees_of s mid CELLS) (trees_of s new CELLS) level c.args.cells.now before page c.cells.cell.now (drop c.cells.next-index list) over (was.filled early)
    (cell_weaker Holds (g.P.Pairs.hold pairs (trees_of s mid)) to_mid (trees_of s mid CELLS) (trees_of s new CELLS) level c.cells.cell.now before c.in_ok-last.last (c.in_ok-last.ensures.filled clean))

pub page_below-returns-then-level-eq0-clause-filled : goal.page_below-returns-then-level-eq0-clause-filled
page_below-returns-then-level-eq0-clause-filled g t c clean =
    let s = g.S.Store in
    let old : List Row = trees_of s c.args.trees.now CELLS in
    let new : List Row = trees_of s c.within.new.trees CELLS in
    let Holds : KeyDigests → Type 0 = g.P.Pairs.hold c.args.pairs.now (trees_of s c.args.trees.now) in
    let front = bound_bytes c.args.front.now in
    let before = bound_bytes c.args.before.now in
    let level : c.args.level ≡ 0 = search rules in
    subst (λ l. FillsPage Holds old new l front before c.in_ok-leaf.leaf) (sym level)
    (leaf_filled Holds old new front before c.in_ok-found.found c.in_ok-leaf.leaf (ap (λ v. v.trees CELLS) (c.in_ok-found.ensures.same clean)) (c.in_ok-found.ensures.pairs clean) c.in_ok-leaf.ensures)

pub page_below-returns-clause-filled : goal.page_below-returns-clause-filled
page_below-returns-clause-filled g t c clean =
    let s = g.S.Store in
    let start = c.args.trees.now in
    let mid = c.scan.new.trees in
    let pairs = c.args.pairs.now in
    let Holds : KeyDigests → Type 0 = g.P.Pairs.hold pairs (trees_of s start) in
    let front = bound_bytes c.args.front.now in
    let before = bound_bytes c.args.before.now in
    let later : IsClean s mid = omega (arith, c.nodes_of.ensures.uncommitted.quiet.clean, clean) in
    let same : trees_of s mid ≡ trees_of s start = ap (λ v. v.trees) (c.in_ok-cells.ensures.same later) in
    let to_mid : (m : KeyDigests) → Holds m → g.P.Pairs.hold pairs (trees_of s mid) m = λ m held. subst (λ (trees : Trees). g.P.Pairs.hold pairs trees m) (sym same) held in
    let most : ℕ = 18446744073709551615 in
    let number : c.from.result ≡ c.args.level = c.from.ensures in
    let cells = c.in_ok-cells.cells in
    let page = c.in_ok-page.page in
    let scanned : IsScan most (rows_between c.args.level front before (trees_of s start CELLS)) cells =
    subst (λ l. IsScan most (rows_between l front before (trees_of s start CELLS)) cells) number (c.in_ok-cells.ensures.scanned later) in
    let nodes : FillsNodes (g.P.Pairs.hold pairs (trees_of s mid)) (trees_of s mid CELLS) (trees_of s c.nodes_of.new.trees CELLS) c.args.level cells.items before page =
    subst (λ l. FillsNodes (g.P.Pairs.hold pairs (trees_of s mid)) (trees_of s mid CELLS) (trees_of s c.nodes_of.new.trees CELLS) l cells.items before page) c.from-2.ensures
    (subst (λ (cs : List Cell). FillsNodes (g.P.Pairs.hold pairs (trees_of s mid)) (trees_of s mid CELLS) (trees_of s c.nodes_of.new.trees CELLS) c.from-2.result cs before page) c.deref.ensures.value
    (c.in_ok-page.ensures.filled clean)) in
    page_filled Holds (trees_of s start CELLS) (trees_of s mid CELLS) (trees_of s c.nodes_of.new.trees CELLS) c.args.level most front before cells page (search rules)
    (ap (λ trees. trees CELLS) same) scanned (search rules)
    (nodes_weaker Holds (g.P.Pairs.hold pairs (trees_of s mid)) to_mid (trees_of s mid CELLS) (trees_of s c.nodes_of.new.trees CELLS) c.args.level cells.items before page nodes)
