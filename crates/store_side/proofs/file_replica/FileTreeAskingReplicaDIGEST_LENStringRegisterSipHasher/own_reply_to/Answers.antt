use Rattle.std.proofs.Common.{None}
use Rattle.store_rows.specs.Digests.{digest_rows}
use Rattle.store_side.specs.FileTrees.{digests_under}
use Rattle.store_side.proofs.file_replica.FileTreeAskingReplicaDIGEST_LENStringRegisterSipHasher.own_reply_to.Goals as goal

pub returns-clause-kept : goal.returns-clause-kept
returns-clause-kept g c = λ sound.
    let hasher = (c.own_reply_by.ensures.settings sound).0 in
    let rows = c.own_reply_by.ensures.rows sound in
    (λ i. record { digests = digests_under (hasher i) (digest_rows (hasher i) (rows i)); rows = None })
