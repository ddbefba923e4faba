use Rattle.std.proofs.Common.{◌≡◌, ◌++◌, ◌∙◌, true, refl, ap, sym}
use Rattle.merkle_bytes.proofs.Listed.{alone, stays, as_list, run_told}
use Rattle.merkle_bytes.proofs.laws.bytes_tell_lists.Goals as goal

pub returns : goal.returns
returns g c = λ xs ys r s e.
    let encoding = g.T.Encode.encoding in
    let told = run_told (alone encoding) stays (λ x y. g.T.PartialEq.eq x y ≡ true)
    (λ u x y r s e. let both = g.met.T.Decode.told x y r s e in (both.0, refl, both.1)) tt xs ys r s
    (ap (λ t. t ++ r) (as_list encoding xs) ∙ e ∙ ap (λ t. t ++ s) (sym (as_list encoding ys))) in
    (told.0, told.2)
