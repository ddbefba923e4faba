use Rattle.std.proofs.Common.{◌++◌, ◌∷◌, [], ap, sym, ◌∙◌}
use Rattle.std.proofs.lemmas.List.{append_assoc}
use Rattle.merkle_bytes.specs.Counts.{count_bytes}
use Rattle.merkle_bytes.specs.RunTelling.{front_few, front_long}
use Rattle.merkle_bytes.proofs.KeyParts.{fits_by_test, long_by_test}
use Rattle.merkle_bytes.proofs.fronts.encode_front.Goals as goal

pub returns-then-fit_a_byte : goal.returns-then-fit_a_byte
returns-then-fit_a_byte c =
    let few = fits_by_test c.args.kept c.args.more (sym c.fit_a_byte.ensures ∙ c.if-fit_a_byte.true) in
    c.in_ok-extend_from_slice.ensures.items ∙ ap (λ t. c.args.bytes.now.items ++ t) (sym (front_few c.args.kept c.args.more few.0 few.1))

pub returns : goal.returns
returns c =
    let old = c.args.bytes.now.items in
    let kept = count_bytes c.args.kept in
    let more = count_bytes c.args.more in
    c.in_ok-encode_count-2.ensures ∙ ap (λ t. t ++ more) (c.in_ok-encode_count.ensures ∙ ap (λ t. t ++ kept) c.in_ok-extend_from_slice-2.ensures.items ∙ append_assoc old (240 ∷ []) kept)
    ∙ append_assoc old (240 ∷ kept) more
    ∙ ap (λ t. old ++ t) (sym (front_long c.args.kept c.args.more (long_by_test c.args.kept c.args.more (sym c.fit_a_byte.ensures ∙ c.if-fit_a_byte.false))))
