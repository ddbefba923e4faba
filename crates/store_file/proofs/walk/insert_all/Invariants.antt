use Rattle.std.proofs.Common.{take}
use Rattle.sqlite_trees.specs.View.{OnlyWrites}
use Rattle.store_file.specs.Changes.{HasEntriesMore}
use Rattle.store_file.specs.Logs.{HasTables, IsClean, trees_of}
use Rattle.store_file.specs.Transactions.{CommitsNothing}
use Rattle.store_file.proofs.walk.insert_all.Given as goal

abbrev pub invariant-entries : goal.invariant-entries
invariant-entries g l =
    let view = g.S.Store.view in
    let clean = IsClean g.S.Store l.trees in record {
      tables : clean → HasTables (view l.trees);
      added : clean → HasEntriesMore (take l.entry-index l.fn.entries) (trees_of g.S.Store l.fn.trees) (trees_of g.S.Store l.trees);
      frame : clean → OnlyWrites (view l.fn.trees) (view l.trees);
      uncommitted : CommitsNothing g.S.Store l.fn.trees l.trees;
    }
