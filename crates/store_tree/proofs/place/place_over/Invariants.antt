use Rattle.std.proofs.Common.{◌≤◌}
use Rattle.store_file.specs.Logs.{IsClean, trees_of}
use Rattle.store_file.specs.Transactions.{CommitsNothing}
use Rattle.store_file.specs.Walks.{StaysBut}
use Rattle.store_file.specs.declared.catalog.TheConstants.{CELLS}
use Rattle.store_tree.specs.Pages.{gap_between}
use Rattle.store_tree.specs.Rows.{bound_bytes}
use Rattle.store_tree.specs.Tables.{HasTable}
use Rattle.store_tree.proofs.Placing.{Leads}
use Rattle.store_tree.proofs.place.place_over.Given as goal

abbrev pub invariant-levels : goal.invariant-levels
invariant-levels g l =
    let s = g.S.Store in
    let clean = IsClean s l.trees in record {
      table : HasTable s l.trees;
      few : l.place.level ≤ 256;
      leads : clean → Leads (gap_between (bound_bytes l.fn.after) (bound_bytes l.fn.before)) (trees_of s l.fn.trees CELLS) l.place;
      same : clean → StaysBut (s.view l.fn.trees) (s.view l.trees);
      uncommitted : CommitsNothing s l.fn.trees l.trees;
    }

abbrev pub decreases-levels : goal.decreases-levels
decreases-levels g l = l.place.level
