use Rattle.std.specs.String.{string_cmp_total}
use Rattle.key_order.specs.Text.{text_order}
use Rattle.key_order.proofs.SameMaps.{same_map-own}
use Rattle.store_rows.specs.Digests.{digest_rows}
use Rattle.store_side.proofs.file_replica.FileTreeAskingReplicaDIGEST_LENStringRegisterSipHasher.asks_by_its_rows.Goals as goal

pub returns-clause-digests : goal.returns-clause-digests
returns-clause-digests g c = same_map-own text_order string_cmp_total (digest_rows c.args.self.now.hash_key c.args.self.now.rows)
