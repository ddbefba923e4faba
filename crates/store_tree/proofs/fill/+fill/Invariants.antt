use Rattle.std.proofs.Common.{◌+◌, ◌*◌, drop}
use Rattle.store_file.specs.Logs.{IsClean, trees_of}
use Rattle.store_file.specs.Transactions.{CommitsNothing}
use Rattle.store_file.specs.declared.catalog.TheConstants.{CELLS}
use Rattle.store_tree.specs.Rows.{bound_bytes}
use Rattle.store_tree.specs.Tables.{HasTable, KeepsOthers}
use Rattle.store_tree.proofs.Filling.{SoFar}
use Rattle.store_tree.proofs.fill.+fill.Given as goal

abbrev pub decreases-fill_cell : goal.decreases-fill_cell
decreases-fill_cell g l = 3 * l.level

abbrev pub decreases-nodes_of : goal.decreases-nodes_of
decreases-nodes_of g l = 3 * l.level + 1

abbrev pub decreases-page_below : goal.decreases-page_below
decreases-page_below g l = 3 * l.level + 2

abbrev pub invariant-nodes_of-cells : goal.invariant-nodes_of-cells
invariant-nodes_of-cells g l =
    let s = g.S.Store in
    let clean = IsClean s l.trees in record {
      table : HasTable s l.trees;
      filled : clean → SoFar (g.P.Pairs.hold l.fn.pairs (trees_of s l.fn.trees)) (trees_of s l.fn.trees CELLS) (trees_of s l.trees CELLS) l.fn.level l.fn.cells
          (bound_bytes l.fn.before) l.nodes.items l.cell
          (drop l.next-index l.next-items);
      others : clean → KeepsOthers (trees_of s l.fn.trees) (trees_of s l.trees);
      uncommitted : CommitsNothing s l.fn.trees l.trees;
    }
