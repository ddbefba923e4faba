use Rattle.std.proofs.Common.{true, rules, subst}
use Rattle.store_file.specs.Ranges.{HasPassed}
use Rattle.store_file.proofs.Outcomes.{if_ok}
use Rattle.store_file.proofs.Setting.{passed_first, passed_on, passed_over}
use Rattle.store_file.proofs.range.hand_on.Goals as goal

pub returns-in_default-clause-passed : goal.returns-in_default-clause-passed
returns-in_default-clause-passed g c first rows took none =
    let took_of = g.T.RowVisitor.took in
    let visitor = c.args.visitor.now in
    subst (λ last. HasPassed took_of first visitor last c.args.entry.now true rows) (search rules) (passed_first took_of first visitor rows c.args.entry.now (none (search rules)) took)

pub returns-in-Less-clause-passed : goal.returns-in-Less-clause-passed
returns-in-Less-clause-passed g c =
    let took_of = g.T.RowVisitor.took in
    let visitor = c.visit.new.self in
    if_ok c.visit.result _ _ (λ more taken first rows took none.
    subst (λ last. HasPassed took_of first visitor last c.args.entry.now more rows) (search rules)
    (passed_on took_of first visitor rows c.in-Some.row c.args.entry.now more (search rules) (taken first rows took))) c.visit.ensures.taken

pub returns-in-Equal-clause-passed : goal.returns-in-Equal-clause-passed
returns-in-Equal-clause-passed g c first rows took none =
    let took_of = g.T.RowVisitor.took in
    let visitor = c.args.visitor.now in
    subst (λ last. HasPassed took_of first visitor last c.args.entry.now true rows) (search rules)
    (passed_over took_of first visitor rows c.in-Some.row c.args.entry.now (search rules) took)
