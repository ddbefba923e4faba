use Rattle.sqlite_trees.specs.View.{OnlyWrites}
use Rattle.store_file.specs.Changes.{KeepsOtherTables}
use Rattle.store_file.specs.Logs.{HasTables, IsClean, trees_of}
use Rattle.store_file.specs.Transactions.{CommitsNothing}
use Rattle.store_file.proofs.walk.clear.Given as goal

abbrev pub invariant-rows : goal.invariant-rows
invariant-rows g l =
    let view = g.S.Store.view in
    let clean = IsClean g.S.Store l.trees in record {
      tables : clean → HasTables (view l.trees);
      others : clean → KeepsOtherTables (trees_of g.S.Store l.fn.trees) (trees_of g.S.Store l.trees);
      frame : clean → OnlyWrites (view l.fn.trees) (view l.trees);
      uncommitted : CommitsNothing g.S.Store l.fn.trees l.trees;
    }
