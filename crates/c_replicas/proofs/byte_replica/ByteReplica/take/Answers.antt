use Rattle.std.proofs.Common.{refl, subst, sym}
use Rattle.merkle_replica.specs.Contents.{side}
use Rattle.merkle_wire.specs.Next.{IsNext}
use Rattle.c_rows.specs.Values.{byte_laws, key_encoding, value_encoding}
use Rattle.c_replicas.proofs.Takes.{came_taken}
use Rattle.c_replicas.proofs.byte_replica.ByteReplica.take.Goals as goal

pub returns-in-Ok-Ask : goal.returns-in-Ok-Ask
returns-in-Ok-Ask c =
    let before = c.in_ok-session.session in
    record {
      none_yet = refl;
      asking = c.in-Ok-Ask.session;
      taken = record {
        before = before;
        under_way = sym c.in_ok-session.ensures.value;
        comes = subst (IsNext byte_laws 16 key_encoding value_encoding (side c.args.self.now.replica) before c.args.reply.now) c.in-Ok-Ask.field-0-is c.in-Ok-Ask.ensures.next;
      };
      asks = refl;
      same = record { rows = c.take-2.ensures.rows; settings = c.take-2.ensures.settings };
    }

pub returns-in-Ok-Came : goal.returns-in-Ok-Came
returns-in-Ok-Came c =
    let before = c.in_ok-session.session in let old = c.args.self.now in
    came_taken old (record { replica = c.take-2.new.replica; session = c.take.new.self; message = c.new.result }) c.join.new.self
    (record { rows = c.take-2.ensures.rows; settings = c.take-2.ensures.settings }) c.args.reply.now c.in-Ok-Came.rows c.join.result
    (record {
      before = before;
      under_way = sym c.in_ok-session.ensures.value;
      comes = subst (IsNext byte_laws 16 key_encoding value_encoding (side old.replica) before c.args.reply.now) c.in-Ok-Came.field-0-is c.in-Ok-Came.ensures.next;
    })
    (c.take.ensures.after, c.new.ensures.items) c.join.ensures
