use Rattle.std.proofs.Common.{subst, sym}
use Rattle.c_sides.specs.Calls.{CountsFor}
use Rattle.c_sides.proofs.byte_sync.ByteSync.answer_alone.Goals as goal

pub returns-in-Ok-answer_by-clause-done : goal.returns-in-Ok-answer_by-clause-done
returns-in-Ok-answer_by-clause-done c done =
    let rows = c.unread-rows.result in
    record {
      asked = c.args.asked.now;
      asks = c.requires.asks;
      count = rows.count;
      counted = subst (CountsFor c.args.asked.now c.args.self.now) (sym c.unread-rows.ensures) c.in-Ok.ensures;
      row = rows.row;
      replies = c.in-Ok-answer_by.ensures.answered tt;
    }
