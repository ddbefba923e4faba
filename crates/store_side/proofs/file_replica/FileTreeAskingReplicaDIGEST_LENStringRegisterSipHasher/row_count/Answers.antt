use Rattle.std.proofs.Common.{None, ap}
use Rattle.store_rows.specs.Digests.{digest_rows}
use Rattle.store_side.specs.FileTrees.{digests_under}
use Rattle.store_side.proofs.file_replica.FileTreeAskingReplicaDIGEST_LENStringRegisterSipHasher.row_count.Goals as goal

pub returns-clause-kept : goal.returns-clause-kept
returns-clause-kept g c = λ sound.
    ap (λ k. record { digests = digests_under k.tree.hasher (digest_rows k.tree.hasher k.rows); rows = None }) (c.count.ensures.kept sound)
