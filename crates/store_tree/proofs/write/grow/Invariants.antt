use Rattle.std.proofs.Common.{◌≡◌, ◌⊎◌, ◌≤◌, ◌-◌}
use Rattle.store_file.specs.Logs.{IsClean, trees_of}
use Rattle.store_file.specs.Transactions.{CommitsNothing}
use Rattle.store_file.specs.declared.catalog.TheConstants.{CELLS}
use Rattle.store_tree.specs.Rows.{with_levels}
use Rattle.store_tree.specs.Tables.{KeepsOthers}
use Rattle.store_tree.proofs.write.grow.Given as goal

abbrev pub invariant-levels : goal.invariant-levels
invariant-levels g l =
    let s = g.S.Store in record {
      from : l.fn.top ≤ l.level;
      upto : (l.level ≤ l.fn.upto) ⊎ (l.level ≡ l.fn.top);
      grown : IsClean s l.trees → trees_of s l.trees CELLS ≡ with_levels l.fn.top (l.level - l.fn.top) (trees_of s l.fn.trees CELLS);
      others : IsClean s l.trees → KeepsOthers (trees_of s l.fn.trees) (trees_of s l.trees);
      uncommitted : CommitsNothing s l.fn.trees l.trees;
    }

abbrev pub decreases-levels : goal.decreases-levels
decreases-levels g l = l.fn.upto - l.level
