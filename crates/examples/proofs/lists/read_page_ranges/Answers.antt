use Rattle.std.proofs.Common.{rules, ◌≡◌, Err, ap, subst, sym, ◌∙◌}
use Rattle.std.specs.List.{AllByRecursion}
use Rattle.merkle_bytes.specs.Encodings.{list_bytes}
use Rattle.examples.specs.Wire.{page_range_bytes, IsNameRange}
use Rattle.examples.specs.declared.wire.WireFault.TheVariants.{Malformed}
use Rattle.examples.proofs.lists.read_page_ranges.Goals as goal

pub returns-clause-read : goal.returns-clause-read
returns-clause-read c = c.in_ok-read_list.ensures.read ∙ ap (list_bytes page_range_bytes) (sym c.in_ok-theirs.ensures)

pub returns-clause-each : goal.returns-clause-each
returns-clause-each c = subst (AllByRecursion IsNameRange) (sym c.in_ok-theirs.ensures) c.in_ok-read_list.ensures.values

pub returns-in_err-read_list-clause-malformed : goal.returns-in_err-read_list-clause-malformed
returns-in_err-read_list-clause-malformed c is =
    let was : c.read_list.result ≡ Err Malformed = search rules in
    c.read_list.ensures.malformed was
