use Rattle.std.proofs.Common.{Some, sym, ap, ◌∙◌}
use Rattle.std.specs.Option.{option_map}
use Rattle.key_order.specs.Map.{get}
use Rattle.c_rows.specs.Values.{value_items}
use Rattle.c_values.specs.Keys.{bytes_cmp}
use Rattle.c_replicas.specs.Values.{byte_rows}
use Rattle.c_replicas.proofs.Bytes.{bytes_at}
use Rattle.c_replicas.proofs.byte_replica.ByteReplica.get.Goals as goal

pub returns-in-Some : goal.returns-in-Some
returns-in-Some c =
    let held = c.args.self.now.replica in let key = c.in_ok-own_key.own_key in
    ap (get bytes_cmp (byte_rows held)) (sym c.in_ok-own_key.ensures.items) ∙ sym (bytes_at held.rows key)
    ∙ ap (option_map value_items) c.in-Some.ensures.1 ∙ ap Some (sym c.as_slice.ensures.value)

pub returns : goal.returns
returns c =
    let held = c.args.self.now.replica in let key = c.in_ok-own_key.own_key in
    ap (get bytes_cmp (byte_rows held)) (sym c.in_ok-own_key.ensures.items) ∙ sym (bytes_at held.rows key) ∙ ap (option_map value_items) c.in-None.ensures
