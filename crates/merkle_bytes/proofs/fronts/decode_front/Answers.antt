use Rattle.std.proofs.Common.{◌≡◌, ◌+◌, ◌*◌, ◌/◌, ◌%◌, ◌++◌, ◌∷◌, ◌⊎◌, [], length, arith, ap, sym, ◌∙◌, inl, inr}
use Rattle.std.proofs.lemmas.List.{length-append, append_assoc}
use Rattle.merkle_bytes.specs.Counts.{count_bytes, count_told}
use Rattle.merkle_bytes.specs.Keys.{front_bytes}
use Rattle.merkle_bytes.specs.RunTelling.{front_few, front_long}
use Rattle.merkle_bytes.proofs.KeyParts.{front_begins, front_some, fits_by_test, long_by_test}
use Rattle.merkle_bytes.proofs.fronts.decode_front.Goals as goal

pub returns-in_default : goal.returns-in_default
returns-in_default c = λ kept more rest low low_more e.
    absurd (omega (arith, ap length e, length-append (front_bytes kept more) rest, front_some kept more, c.in_default.ensures.cases))

pub returns-then-byte-lt-LONG : goal.returns-then-byte-lt-LONG
returns-then-byte-lt-LONG c =
    let byte = c.in-Some.byte.now in
    let parts : byte ≡ 16 * (byte / 16) + byte % 16 = omega arith in
    c.in-Some.ensures.cases.0 ∙ ap (λ t. t ++ c.in-Some.behind.now) (ap (λ b. b ∷ []) parts ∙ sym (front_few (byte / 16) (byte % 16) (omega (arith, c.if-byte-lt-LONG.true)) (omega arith)))

pub returns-then-byte-gt-LONG : goal.returns-then-byte-gt-LONG
returns-then-byte-gt-LONG c = λ kept more rest low low_more e.
    elim (front_begins kept more c.in-Some.byte.now c.in-Some.behind.now rest (sym c.in-Some.ensures.cases.0 ∙ e)) [
      | inl few ↦ absurd (omega (arith, few.0, c.if-byte-gt-LONG.true))
      | inr long ↦ absurd (omega (arith, long.0, c.if-byte-gt-LONG.true))
    ]

pub returns-in_default-decode_count : goal.returns-in_default-decode_count
returns-in_default-decode_count c = λ kept more rest low low_more e.
    elim (front_begins kept more c.in-Some.byte.now c.in-Some.behind.now rest (sym c.in-Some.ensures.cases.0 ∙ e)) [
      | inl few ↦ absurd (omega (arith, few.0, c.if-byte-lt-LONG.false))
      | inr long ↦ c.in_default-decode_count.ensures kept (count_bytes more ++ rest) low long.2
    ]

pub returns-in_default-decode_count-2 : goal.returns-in_default-decode_count-2
returns-in_default-decode_count-2 c = λ kept more rest low low_more e.
    elim (front_begins kept more c.in-Some.byte.now c.in-Some.behind.now rest (sym c.in-Some.ensures.cases.0 ∙ e)) [
      | inl few ↦ absurd (omega (arith, few.0, c.if-byte-lt-LONG.false))
      | inr long ↦ (let told = count_told kept c.in-Some-decode_count.kept (count_bytes more ++ rest) c.in-Some-decode_count.behind.now (sym long.2 ∙ c.in-Some-decode_count.ensures) in
          c.in_default-decode_count-2.ensures more rest low_more (sym told.1))
    ]

pub returns-then-fit_a_byte : goal.returns-then-fit_a_byte
returns-then-fit_a_byte c = λ kept more rest low low_more e.
    elim (front_begins kept more c.in-Some.byte.now c.in-Some.behind.now rest (sym c.in-Some.ensures.cases.0 ∙ e)) [
      | inl few ↦ absurd (omega (arith, few.0, c.if-byte-lt-LONG.false))
      | inr long ↦ (let firsts = count_told kept c.in-Some-decode_count.kept (count_bytes more ++ rest) c.in-Some-decode_count.behind.now (sym long.2 ∙ c.in-Some-decode_count.ensures) in
          let seconds = count_told more c.in-Some-decode_count-2.more rest c.in-Some-decode_count-2.rest.now (firsts.1 ∙ c.in-Some-decode_count-2.ensures) in
          let few = fits_by_test c.in-Some-decode_count.kept c.in-Some-decode_count-2.more (sym c.fit_a_byte.ensures ∙ c.if-fit_a_byte.true) in
          elim long.1 [ inl many ↦ absurd (omega (arith, many, few.0, firsts.0)) | inr high ↦ absurd (omega (arith, high, few.1, seconds.0)) ])
    ]

pub returns : goal.returns
returns c =
    let kept = c.in-Some-decode_count.kept in
    let more = c.in-Some-decode_count-2.more in
    let rest = c.in-Some-decode_count-2.rest.now in
    let is : c.in-Some.byte.now ≡ 240 = omega (arith, c.if-byte-lt-LONG.false, c.if-byte-gt-LONG.false) in
    c.in-Some.ensures.cases.0 ∙ ap (λ b. b ∷ c.in-Some.behind.now) is
    ∙ ap (λ t. 240 ∷ t) (c.in-Some-decode_count.ensures ∙ ap (λ t. count_bytes kept ++ t) c.in-Some-decode_count-2.ensures ∙ sym (append_assoc (count_bytes kept) (count_bytes more) rest))
    ∙ ap (λ t. t ++ rest) (sym (front_long kept more (long_by_test kept more (sym c.fit_a_byte.ensures ∙ c.if-fit_a_byte.false))))
