use Rattle.std.proofs.Common.{Some}
use Rattle.merkle_wire.proofs.kept_replica.ReplicaAskingReplica.own_reply_to.Goals as goal

pub returns-clause-kept : goal.returns-clause-kept
returns-clause-kept g c = λ sound.
    let settings = c.own_reply_by.ensures.settings sound in
    let map = c.own_reply_by.ensures.map sound in
    let rows = c.own_reply_by.ensures.rows sound in
    (λ i. record { digests = record { hasher = settings.0 i; base = settings.1 i; format = settings.2 i; map = map i }; rows = Some (rows i) })
