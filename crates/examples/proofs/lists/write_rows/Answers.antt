use Rattle.std.proofs.Common.{subst, ◌∙◌}
use Rattle.std.proofs.lemmas.List.{take_all}
use Rattle.std.proofs.lemmas.List.Elements.{All-more}
use Rattle.std.specs.List.{All}
use Rattle.merkle_diff.proofs.Each.{each-mapped, each-of_All}
use Rattle.examples.specs.Wire.{name_row_bytes, HasWideNumber}
use Rattle.examples.proofs.Told.{list-map}
use Rattle.examples.proofs.lists.write_rows.Goals as goal

pub numbers-preserved : goal.numbers-preserved
numbers-preserved c =
    All-more (λ r. HasWideNumber r.now) c.args.rows.now c.numbers.row-index c.row-item.result c.numbers-test.true c.numbers.invariant
    (subst (λ r. HasWideNumber r.now) c.row-item.is c.number_fits.ensures)

pub returns-clause-bytes : goal.returns-clause-bytes
returns-clause-bytes c = c.in_ok-bytes.ensures ∙ list-map name_row_bytes (λ r. r.now) c.args.rows.now

pub returns-clause-each : goal.returns-clause-each
returns-clause-each c =
    let all = subst (All (λ r. HasWideNumber r.now)) (take_all c.numbers.row-index c.args.rows.now c.numbers-test.false) c.numbers.invariant in
    each-mapped (λ r. r.now) HasWideNumber c.args.rows.now (each-of_All (λ r. HasWideNumber r.now) c.args.rows.now all)
