use Rattle.std.proofs.Common.{take}
use Rattle.store_file.specs.Logs.{HasTables, IsClean, trees_of}
use Rattle.store_file.specs.Transactions.{CommitsNothing}
use Rattle.store_file.specs.declared.catalog.TheConstants.{CELLS}
use Rattle.store_tree.specs.Loads.{KnowsNothing}
use Rattle.store_rows.specs.InStep.{PutsInStep}
use Rattle.store_rows.proofs.writing.put_each.Given as goal

abbrev pub invariant-entries : goal.invariant-entries
invariant-entries g l =
    let s = g.S.Store in
    let clean = IsClean s l.trees in record {
      tables : clean → HasTables (s.view l.trees);
      put : clean → PutsInStep l.fn.hasher (take l.entry-index l.fn.entries) (trees_of s l.fn.trees) (trees_of s l.trees);
      unknown : clean → KnowsNothing (trees_of s l.trees CELLS);
      uncommitted : CommitsNothing s l.fn.trees l.trees;
    }
