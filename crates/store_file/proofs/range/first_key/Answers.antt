use Rattle.std.proofs.Common.{rules}
use Rattle.store_file.specs.Logs.{trees_of}
use Rattle.store_file.proofs.FirstKey.{first_given, none_first}
use Rattle.store_file.proofs.range.first_key.Goals as goal

pub returns-then-not-branch-clause-first : goal.returns-then-not-branch-clause-first
returns-then-not-branch-clause-first g c clean =
    none_first (trees_of g.S.Store c.args.trees.now) _ c.look.new.row (search rules) _ (search rules) (c.in_ok-look.ensures.found clean)

pub returns-clause-first : goal.returns-clause-first
returns-clause-first g c clean =
    first_given (trees_of g.S.Store c.args.trees.now) _ c.look.new.row (search rules) _ c.in_ok-entry.entry (search rules) (c.in_ok-look.ensures.found clean)
    c.in_ok-entry.ensures.entry
