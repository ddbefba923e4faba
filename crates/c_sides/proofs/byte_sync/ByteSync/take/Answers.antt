use Rattle.std.proofs.Common.{rules, ◌≡◌, length, refl, ap, subst, sym, ◌∙◌}
use Rattle.c_rows.specs.Values.{byte_laws, key_encoding, value_encoding}
use Rattle.key_order.specs.Map.{IsPresent}
use Rattle.merkle_wire.specs.Next.{IsNext}
use Rattle.merkle_wire.specs.declared.session_error.SessionError.TheVariants.{Memory}
use Rattle.c_sides.proofs.Takes.{kept_taken}
use Rattle.c_sides.proofs.byte_sync.ByteSync.take.Goals as goal
use Rattle.merkle_wire.specs.ItsRows.{ForRowsOf, digests_of}

pub returns-else-len-eq0 : goal.returns-else-len-eq0
returns-else-len-eq0 c =
    let before = c.in_ok-session.session in
    let has_len : c.len-len.result ≡ length c.in-Ok-Ask.message.items = search rules in
    record {
      asking = c.in-Ok-Ask.session;
      taken = record {
        before = before;
        under_way = sym c.in_ok-session.ensures.value;
        comes = subst (λ next. ForRowsOf byte_laws (digests_of c.args.self.now.tree) (λ local. IsNext byte_laws 16 key_encoding value_encoding local before c.args.reply.now next))
            c.in-Ok-Ask.field-0-is (c.in-Ok-Ask.ensures.next tt);
      };
      asks = refl;
      some = λ none. c.if-len-eq0.false (has_len ∙ none);
      same = record {
        map = ap (λ k. k.digests.map) (c.take_by.ensures.kept tt);
        settings =
            (ap (λ k. k.digests.hasher) (c.take_by.ensures.kept tt), ap (λ k. k.digests.base) (c.take_by.ensures.kept tt), ap (λ k. k.digests.format) (c.take_by.ensures.kept tt));
      };
      list = refl;
    }

pub returns-in-Ok-Came : goal.returns-in-Ok-Came
returns-in-Ok-Came c =
    let before = c.in_ok-session.session in let old = c.args.self.now in
    kept_taken old (record { tree = c.take_by.new.tree; session = c.take.new.self; about = old.about; message = c.new.result; list = old.list }) c.keep.new.self
    (λ none. subst IsPresent (c.in_ok-session.ensures.value ∙ none) tt)
    (record {
      map = ap (λ k. k.digests.map) (c.take_by.ensures.kept tt);
      settings = (
        ap (λ k. k.digests.hasher) (c.take_by.ensures.kept tt),
        ap (λ k. k.digests.base) (c.take_by.ensures.kept tt),
        ap (λ k. k.digests.format) (c.take_by.ensures.kept tt),
      );
    }) refl (c.take.ensures.after, c.new.ensures.items) c.args.reply.now c.in-Ok-Came.rows c.keep.result
    (record {
      before = before;
      under_way = sym c.in_ok-session.ensures.value;
      comes = subst (λ next. ForRowsOf byte_laws (digests_of old.tree) (λ local. IsNext byte_laws 16 key_encoding value_encoding local before c.args.reply.now next))
          c.in-Ok-Came.field-0-is (c.in-Ok-Came.ensures.next tt);
    })
    c.keep.ensures

pub returns-in-Err-Tree : goal.returns-in-Err-Tree
returns-in-Err-Tree c = (
  search rules,
  search rules,
  record { before = c.in_ok-session.session; under_way = sym c.in_ok-session.ensures.value; error = Memory; is = refl; stopped = λ rows of. tt },
)
