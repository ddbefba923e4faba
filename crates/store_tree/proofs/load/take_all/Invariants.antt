use Rattle.store_file.specs.Logs.{IsClean, trees_of}
use Rattle.store_file.specs.Transactions.{CommitsNothing}
use Rattle.store_tree.specs.Tables.{KeepsOthers}
use Rattle.store_tree.proofs.load.take_all.Given as goal

abbrev pub invariant-rows : goal.invariant-rows
invariant-rows g l =
    let s = g.S.Store in record {
      others : IsClean s l.trees → KeepsOthers (trees_of s l.fn.trees) (trees_of s l.trees);
      uncommitted : CommitsNothing s l.fn.trees l.trees;
    }
