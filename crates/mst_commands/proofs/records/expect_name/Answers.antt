use Rattle.std.proofs.Common.{◌≡◌, List, ℕ, ap, ◌∙◌, rules}
use Rattle.csv.specs.Records.{fields_of}
use Rattle.mst_commands.specs.Records.{field_or_empty}
use Rattle.mst_commands.proofs.records.expect_name.Goals as goal

-- the header has this name here, so a record whose field differs is another
pub returns-else-eq-clause-other : goal.returns-else-eq-clause-other
returns-else-eq-clause-other c same =
    let differs : field_or_empty (fields_of c.args.row.now) c.args.at ≡ c.args.name.now → ⊥ = search rules in
    differs (ap (λ (fields : List (List ℕ)). field_or_empty fields c.args.at) same ∙ c.requires)
