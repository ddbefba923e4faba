use Rattle.std.proofs.Common.{◌++◌, ◌∷◌, ◌/◌, ◌-◌, length, arith, ap, ap₂, sym, ◌∙◌}
use Rattle.std.proofs.lemmas.List.{length-append}
use Rattle.merkle_bytes.specs.Counts.{bits_bytes}
use Rattle.merkle_bytes.specs.Counts.{bits_few, bits_last, bits_more, bits_some, bits_parts, bits_told}
use Rattle.merkle_bytes.proofs.counts.+decode_bits.Goals as goal

pub returns-in_default : goal.returns-in_default
returns-in_default t c = λ number rest fits e.
    absurd (omega (arith, ap length e, length-append (bits_bytes c.args.more number) rest, bits_some c.args.more number, c.in_default.ensures.cases))

pub returns-then-byte-lt128 : goal.returns-then-byte-lt128
returns-then-byte-lt128 t c = c.in-Some.ensures.cases.0 ∙ ap (λ x. x ++ c.in-Some.behind.now) (sym (bits_few c.args.more c.in-Some.byte.now c.if-byte-lt128.true))

pub returns-then-more-eq0 : goal.returns-then-more-eq0
returns-then-more-eq0 t c =
    c.in-Some.ensures.cases.0 ∙ ap (λ x. x ++ c.in-Some.behind.now) (sym (bits_last c.in-Some.byte.now) ∙ ap (λ m. bits_bytes m c.in-Some.byte.now) (sym c.if-more-eq0.true))

pub returns-in_default-decode_bits : goal.returns-in_default-decode_bits
returns-in_default-decode_bits t c = λ number rest fits e.
    let more = c.args.more in
    let p = bits_parts more number c.in-Some.byte.now c.in-Some.behind.now rest (omega arith) (omega arith) (sym c.in-Some.ensures.cases.0 ∙ e) in
    c.in_default-decode_bits.ensures (number / 128) rest (omega (arith, fits)) p.2

pub returns-in-Some-joined : goal.returns-in-Some-joined
returns-in-Some-joined t c =
    let more = c.args.more in
    let number = c.in-Some-joined.number in
    let rest = c.in-Some-decode_bits.rest.now in
    let p = c.in-Some-joined.ensures in
    c.in-Some.ensures.cases.0
    ∙ ap₂ (λ b x. b ∷ x) p.1 (c.in-Some-decode_bits.ensures ∙ ap (λ n. bits_bytes (more - 1) n ++ rest) (sym p.2))
    ∙ ap (λ x. x ++ rest) (sym (bits_more more number (omega arith) p.0))

pub returns-in-None : goal.returns-in-None
returns-in-None t c = λ number rest fits e.
    let more = c.args.more in
    let p = bits_parts more number c.in-Some.byte.now c.in-Some.behind.now rest (omega arith) (omega arith) (sym c.in-Some.ensures.cases.0 ∙ e) in
    let same = bits_told (more - 1) (number / 128) c.in-Some-decode_bits.high rest c.in-Some-decode_bits.rest.now (sym p.2 ∙ c.in-Some-decode_bits.ensures) in
    c.in-None.ensures number p.0 fits p.1 same.0
