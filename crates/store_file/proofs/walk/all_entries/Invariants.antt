use Rattle.std.proofs.Common.{◌≡◌, ◌++◌, List, map, false, Some, IsSome}
use Rattle.sqlite_value.specs.Order.{Row}
use Rattle.store_file.specs.Entries.{entry_row}
use Rattle.store_file.specs.Logs.{IsClean, trees_of}
use Rattle.store_file.specs.Transactions.{CommitsNothing}
use Rattle.store_file.specs.Walks.{StaysBut}
use Rattle.store_file.proofs.walk.all_entries.Given as goal

abbrev pub invariant-rows : goal.invariant-rows
invariant-rows g l =
    let view = g.S.Store.view in
    let clean = IsClean g.S.Store l.trees in record {
      live : IsSome ((view l.trees).cursors 0);
      passed : clean → (left : List Row) × ((view l.trees).cursors 0 ≡ Some left) × (trees_of g.S.Store l.fn.trees 0 ≡ map entry_row l.entries.items ++ left);
      sound : clean → (view l.fn.trees).is_broken ≡ false;
      same : clean → StaysBut (view l.fn.trees) (view l.trees);
      uncommitted : CommitsNothing g.S.Store l.fn.trees l.trees;
    }
