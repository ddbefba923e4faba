use Rattle.std.proofs.Common.{◌≤◌, ◌-◌, string_bytes}
use Rattle.store_file.specs.Logs.{IsClean, trees_of}
use Rattle.store_file.specs.Transactions.{CommitsNothing}
use Rattle.store_file.specs.declared.catalog.TheConstants.{CELLS}
use Rattle.store_tree.specs.Tables.{KeepsOthers}
use Rattle.store_tree.specs.Touches.{TouchesUpto}
use Rattle.store_tree.proofs.write.touch_all.Given as goal

abbrev pub invariant-levels : goal.invariant-levels
invariant-levels g l =
    let s = g.S.Store in record {
      low : l.level ≤ l.fn.upto;
      touched : IsClean s l.trees → TouchesUpto (string_bytes l.fn.key) l.fn.on l.level (trees_of s l.fn.trees CELLS) (trees_of s l.trees CELLS);
      others : IsClean s l.trees → KeepsOthers (trees_of s l.fn.trees) (trees_of s l.trees);
      uncommitted : CommitsNothing s l.fn.trees l.trees;
    }

abbrev pub decreases-levels : goal.decreases-levels
decreases-levels g l = l.fn.upto - l.level
