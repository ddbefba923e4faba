use Rattle.std.proofs.Common.{inr, rules, subst}
use Rattle.store_file.specs.Reading.{TakesEntry}
use Rattle.store_file.proofs.range.next_below.Goals as goal

pub returns-then-not-is_below-clause-taken : goal.returns-then-not-is_below-clause-taken
returns-then-not-is_below-clause-taken g c clean =
    let view = g.S.Store.view in
    inr (c.in-Some.entry, search rules, subst (TakesEntry (view c.args.trees.now) (view c.take_entry.new.trees)) c.in-Some.is (c.in_ok-entry.ensures.taken clean))
