use Rattle.std.proofs.Common.{◌++◌, ◌∷◌, ◌-◌, ◌/◌, ◌%◌, ◌+◌, [], arith, ap, sym, ◌∙◌}
use Rattle.std.proofs.lemmas.List.{append_assoc}
use Rattle.merkle_bytes.specs.Counts.{bits_bytes}
use Rattle.merkle_bytes.specs.Counts.{bits_few, bits_more}
use Rattle.merkle_bytes.proofs.Bits.{fewer_bits}
use Rattle.merkle_bytes.proofs.counts.+encode_bits.Goals as goal

pub returns-then-number-lt128 : goal.returns-then-number-lt128
returns-then-number-lt128 t c = c.in_ok-extend_from_slice.ensures.items ∙ ap (λ x. c.args.bytes.now.items ++ x) (sym (bits_few c.args.more c.args.number c.if-number-lt128.true))

pub encode_bits-requires : goal.encode_bits-requires
encode_bits-requires t c = (omega (arith, c.decreases), fewer_bits c.args.more c.args.number (omega arith) c.requires)

pub returns : goal.returns
returns t c =
    let old = c.args.bytes.now.items in
    let more = c.args.more in
    let number = c.args.number in
    c.in_ok-encode_bits.ensures
    ∙ ap (λ x. x ++ bits_bytes (more - 1) (number / 128)) c.in_ok-extend_from_slice-3.ensures.items
    ∙ append_assoc old ((128 + number % 128) ∷ []) (bits_bytes (more - 1) (number / 128))
    ∙ ap (λ x. old ++ x) (sym (bits_more more number (omega arith) (omega arith)))
