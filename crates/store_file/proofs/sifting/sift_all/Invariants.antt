use Rattle.std.proofs.Common.{◌≡◌, List, false, length, IsSome}
use Rattle.sqlite_value.specs.Order.{Row}
use Rattle.store_file.specs.Logs.{IsClean, trees_of}
use Rattle.store_file.specs.Sifting.{AreSifted}
use Rattle.store_file.specs.Transactions.{CommitsNothing}
use Rattle.store_file.specs.Walks.{StaysBut}
use Rattle.store_file.proofs.Walking.{Passes}
use Rattle.store_file.proofs.sifting.sift_all.Given as goal

-- the rows that were read are sifted, and the cursor has the others to give
abbrev pub invariant-rows : goal.invariant-rows
invariant-rows g l =
    let view = g.S.Store.view in
    let clean = IsClean g.S.Store l.trees in record {
      live : IsSome ((view l.trees).cursors 0);
      passed : clean → (seen : List Row) × Passes (trees_of g.S.Store l.fn.trees 0) seen (view l.trees) × AreSifted seen l.sifted.entries.items (length l.sifted.bad.items);
      sound : clean → (view l.fn.trees).is_broken ≡ false;
      same : clean → StaysBut (view l.fn.trees) (view l.trees);
      uncommitted : CommitsNothing g.S.Store l.fn.trees l.trees;
    }
