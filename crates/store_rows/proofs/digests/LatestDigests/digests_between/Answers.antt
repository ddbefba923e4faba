use Rattle.std.proofs.Common.{ℕ, List}
use Rattle.std.specs.Global.{Vec}
use Rattle.key_order.specs.Text.{Text}
use Rattle.store_file.specs.Logs.{trees_of}
use Rattle.store_file.proofs.Outcomes.{if_ok}
use Rattle.store_rows.proofs.Holding.{pairs_held}
use Rattle.store_rows.proofs.digests.LatestDigests.digests_between.Goals as goal

pub returns-clause-pairs : goal.returns-clause-pairs
returns-clause-pairs g c clean =
    if_ok _ _ _ (λ (pairs : Vec (Text × List ℕ)) told. pairs_held c.args.after.now c.args.before.now c.args.self.now (trees_of g.S.Store c.args.trees.now) c.in_ok-rows.rows.items
    pairs.items (c.in_ok-rows.ensures.latest clean) told) c.digests.ensures
