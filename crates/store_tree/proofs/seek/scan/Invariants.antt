use Rattle.std.proofs.Common.{◌≡◌, ◌++◌, ◌-◌, List, length, map, false, Some, IsSome}
use Rattle.sqlite_value.specs.Keys.{plain}
use Rattle.sqlite_value.specs.Order.{Row}
use Rattle.sqlite_trees.specs.Tree.{from_key}
use Rattle.store_file.specs.Logs.{IsClean, trees_of}
use Rattle.store_file.specs.Transactions.{CommitsNothing}
use Rattle.store_file.specs.Walks.{StaysBut}
use Rattle.store_file.specs.declared.catalog.TheConstants.{CELLS}
use Rattle.store_tree.specs.Rows.{bound_bytes, row_of_cell, start_row}
use Rattle.store_tree.proofs.Scanning.{AreWithin}
use Rattle.store_tree.proofs.seek.scan.Given as goal

abbrev pub invariant-rows : goal.invariant-rows
invariant-rows g l =
    let view = g.S.Store.view in
    let clean = IsClean g.S.Store l.trees in record {
      live : IsSome ((view l.trees).cursors 0);
      passed : clean → (left : List Row) × ((view l.trees).cursors 0 ≡ Some left)
          × (from_key plain (start_row l.fn.level (bound_bytes l.fn.front)) (trees_of g.S.Store l.fn.trees CELLS) ≡ map row_of_cell l.cells.items ++ left);
      within : AreWithin l.fn.level (bound_bytes l.fn.before) (map row_of_cell l.cells.items);
      sound : clean → (view l.fn.trees).is_broken ≡ false;
      same : clean → StaysBut (view l.fn.trees) (view l.trees);
      uncommitted : CommitsNothing g.S.Store l.fn.trees l.trees;
    }

abbrev pub decreases-rows : goal.decreases-rows
decreases-rows g l = l.most - length l.cells.items
