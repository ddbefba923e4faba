use Rattle.std.proofs.Common.{rules}
use Rattle.store_file.specs.Logs.{trees_of}
use Rattle.store_file.proofs.LastRow.{last_entry}
use Rattle.store_file.proofs.latest.latest_at.Goals as goal

pub returns-clause-latest : goal.returns-clause-latest
returns-clause-latest g c clean =
    last_entry c.args.key.now (trees_of g.S.Store c.args.trees.now 0) c.last_row.new.row _ c.in_ok-entry.entry (search rules) (c.in_ok-last_row.ensures.last clean) c.in_ok-entry.ensures.entry
