use Rattle.std.proofs.Common.{take}
use Rattle.store_file.specs.Logs.{IsClean, trees_of}
use Rattle.store_file.specs.Transactions.{CommitsNothing}
use Rattle.store_file.specs.declared.catalog.TheConstants.{CELLS}
use Rattle.store_tree.specs.Loads.{KnowsNothing}
use Rattle.store_tree.specs.Tables.{KeepsOthers}
use Rattle.store_tree.proofs.Loaded.{HoldsKeys}
use Rattle.store_tree.proofs.load.load.Given as goal

abbrev pub invariant-keys : goal.invariant-keys
invariant-keys g l =
    let s = g.S.Store in record {
      added : IsClean s l.trees → HoldsKeys (take l.entry-index l.fn.keys) (trees_of s l.trees CELLS);
      unknown : IsClean s l.trees → KnowsNothing (trees_of s l.trees CELLS);
      others : IsClean s l.trees → KeepsOthers (trees_of s l.fn.trees) (trees_of s l.trees);
      uncommitted : CommitsNothing s l.fn.trees l.trees;
    }
