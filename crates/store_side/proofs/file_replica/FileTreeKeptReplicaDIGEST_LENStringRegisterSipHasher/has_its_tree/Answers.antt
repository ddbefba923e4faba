use Rattle.store_rows.specs.Digests.{digest_rows}
use Rattle.store_side.proofs.file_replica.FileTreeKeptReplicaDIGEST_LENStringRegisterSipHasher.has_its_tree.Goals as goal

pub returns : goal.returns
returns g c = c.a_map_has_one_tree.ensures.defined c.args.self.now.hash_key 16 (digest_rows c.args.self.now.hash_key c.args.self.now.rows)
