use Rattle.std.proofs.Common.{rules, ◌≡◌, Err, ap, refl, sym, ◌∙◌}
use Rattle.std.specs.Bool.{⊤}
use Rattle.merkle_bytes.specs.Encodings.{list_bytes}
use Rattle.merkle_diff.proofs.Each.{each-all}
use Rattle.examples.specs.Wire.{range_bytes}
use Rattle.examples.specs.declared.wire.WireFault.TheVariants.{Malformed}
use Rattle.examples.proofs.Told.{all_made, list-map, as_span}
use Rattle.examples.proofs.lists.read_ranges.Goals as goal

pub returns-clause-read : goal.returns-clause-read
returns-clause-read c = c.in_ok-ranges.ensures.read ∙ list-map range_bytes as_span c.in_ok-ranges.ranges.items

-- each list of spans is one of pairs
pub returns-in_err-ranges-clause-malformed : goal.returns-in_err-ranges-clause-malformed
returns-in_err-ranges-clause-malformed c is ranges e =
    let was : c.read_list.result ≡ Err Malformed = search rules in
    let (list, same) = all_made as_span (λ _. ⊤) (λ s _. ((s.first, s.last), refl {a = s})) ranges (each-all (λ _. ⊤) ranges (λ _. tt)) in
    c.read_list.ensures.malformed was list (each-all (λ _. ⊤ × ⊤) list (λ _. (tt, tt))) (e ∙ ap (list_bytes range_bytes) (sym same) ∙ sym (list-map range_bytes as_span list))
