use Rattle.std.proofs.Common.{◌≡◌, ◌++◌, [], List, None, true, false, IsSome}
use Rattle.std.specs.List.{cons_option}
use Rattle.key_order.specs.Text.{Text as Key}
use Rattle.sqlite_value.specs.Keys.{plain}
use Rattle.sqlite_trees.specs.Tree.{from_key}
use Rattle.store_file.specs.Logs.{IsClean, trees_of}
use Rattle.store_file.specs.Ranges.{row_above}
use Rattle.store_file.specs.Transactions.{CommitsNothing}
use Rattle.store_file.specs.Walks.{StaysBut}
use Rattle.store_file.specs.declared.register.Register.{Register}
use Rattle.store_file.proofs.Ranging.{IsRanging}
use Rattle.store_file.proofs.range.visit_between.Given as goal

-- the visitor took all rows that were read but the last one
abbrev pub invariant-entries : goal.invariant-entries
invariant-entries g l =
    let view = g.S.Store.view in
    let clean = IsClean g.S.Store l.trees in
    let sought = from_key plain (row_above l.fn.after) (trees_of g.S.Store l.fn.trees 0) in record {
      live : IsSome ((view l.trees).cursors 0);
      given : List (Key × Register);
      none : l.last ≡ None → given ≡ [];
      took : g.T.RowVisitor.took l.fn.visitor l.visitor given true;
      ranging : clean → IsRanging l.fn.after l.fn.before sought (given ++ cons_option l.last []) (view l.trees);
      sound : clean → (view l.fn.trees).is_broken ≡ false;
      same : clean → StaysBut (view l.fn.trees) (view l.trees);
      uncommitted : CommitsNothing g.S.Store l.fn.trees l.trees;
    }
