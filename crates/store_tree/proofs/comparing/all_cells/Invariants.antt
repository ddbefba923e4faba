use Rattle.store_file.specs.Transactions.{CommitsNothing}
use Rattle.store_tree.specs.Tables.{HasTable}
use Rattle.store_tree.proofs.comparing.all_cells.Given as goal

abbrev pub invariant-levels : goal.invariant-levels
invariant-levels g l =
    let s = g.S.Store in record {
      table : HasTable s l.trees;
      uncommitted : CommitsNothing s l.fn.trees l.trees;
    }
