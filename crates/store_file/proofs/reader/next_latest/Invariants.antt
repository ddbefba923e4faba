use Rattle.std.proofs.Common.{List, IsSome}
use Rattle.key_order.specs.Text.{Text as Key}
use Rattle.store_file.specs.declared.register.Register.{Register}
use Rattle.store_file.specs.Logs.{IsClean, IsSteady, LeavesNoMore}
use Rattle.store_file.specs.Reading.{IsWalked}
use Rattle.store_file.specs.Walks.{StaysBut}
use Rattle.store_file.proofs.reader.next_latest.Given as goal

-- each walk has read more of the key that it is at
abbrev pub invariant-entries : goal.invariant-entries
invariant-entries g l =
    let s = g.S.Store in record {
      live : IsSome ((s.view l.log).cursors 0);
      walked : (start : g.row.S.Denot) (given : List (Key × Register)) → IsWalked s start l.fn.log l.fn.walk given → IsWalked s start l.log l.walk given;
      same : IsClean s l.log → StaysBut (s.view l.fn.log) (s.view l.log);
      steady : IsSteady s l.fn.log l.log;
      crash : LeavesNoMore s l.fn.log l.log;
    }
