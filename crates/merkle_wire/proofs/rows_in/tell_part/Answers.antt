use Rattle.std.proofs.Common.{◌≡◌, ◌-◌, [], inl, inr, take, drop, map, length, eq-eqb, ap, sym, subst, ◌∙◌}
use Rattle.std.proofs.lemmas.List.{map-append}
use Rattle.merkle_bytes.specs.Runs.{bound_key}
use Rattle.merkle_wire.specs.Parts.{HasTold}
use Rattle.merkle_wire.proofs.PartsTold.{code as row_code}
use Rattle.merkle_wire.proofs.RowParts.{part_of}
use Rattle.merkle_wire.proofs.rows_in.tell_part.Goals as goal

pub returns : goal.returns
returns g c =
    let encoding = g.K.Encode.encoding in
    let values = g.V.Encode.encoding in
    let found = c.rows_in-found.result.now in
    let count = c.in_ok-count.count in
    let parts = part_of found count c.in_ok-count.ensures.inside c.in_ok-count.ensures.some in
    let (more, told, upto) = c.in_ok-count.ensures.told in
    let code = row_code encoding values in
    let gap = c.args.gap.now in
    let most = c.args.most_bytes in
    let is = c.in_ok-part.ensures in
    let begun : c.in_ok-part.part ≡ record { room = most - length c.args.bytes.now.items; count = 0; last = bound_key encoding [] gap.after; bytes = [] } =
    λ i. record { room = (is.room ∙ ap (λ bytes. most - length bytes) c.deref.ensures.value) i; count = is.count i; last = is.last i; bytes = is.bytes i } in
    c.in_ok-end.ensures most gap (take count found) c.args.rows.now (map code (drop count found)) more
    (subst (λ part. HasTold encoding values part c.tell_first.new.part (take count found) more) begun told)
    (ap (map code) (sym c.rows_in-found.ensures ∙ parts.0) ∙ map-append code (take count found) (drop count found))
    (λ all. ap (map code) (parts.1 all))
    (λ less. (parts.2 less, elim upto [ inl all ↦ absurd (let k = sym (eq-eqb count (length found) all) ∙ less in cc) | inr full ↦ full ]))
