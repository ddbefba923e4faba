use Rattle.std.proofs.Common.{refl}
use Rattle.std.proofs.lemmas.Result.{on_ok_weaker}
use Rattle.c_replicas.proofs.byte_replica.ByteReplica.put.Goals as goal

pub returns-clause-done : goal.returns-clause-done
returns-clause-done c =
    let key = c.in_ok-own_key in let value = c.in_ok-bytes in
    on_ok_weaker c.put.result
    (λ joined. record {
      row = (key.own_key, record { bytes = value.bytes });
      bytes = λ i. (key.ensures.items i, value.ensures.items i);
      joins = record { rows = joined; settings = c.put.ensures.settings };
      talk = (refl, refl);
    })
    c.put.ensures.joined
