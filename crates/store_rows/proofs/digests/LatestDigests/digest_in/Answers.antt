use Rattle.std.proofs.Common.{rules}
use Rattle.store_file.specs.Logs.{trees_of}
use Rattle.store_rows.proofs.Holding.{digest_held}
use Rattle.store_rows.proofs.digests.LatestDigests.digest_in.Goals as goal

pub returns-clause-digest : goal.returns-clause-digest
returns-clause-digest g c clean =
    digest_held c.args.self.now (trees_of g.S.Store c.args.trees.now) c.args.key.now _ c.in_ok-found.found c.in-Some.register _ (search rules) (c.in_ok-found.ensures.latest clean)
    (search rules) c.digest.ensures
