use Rattle.std.proofs.Common.{◌≡◌, ℕ, Bool, true, false, not, List, [], ◌∷◌, length, refl, sym, ◌∙◌, nat_eq, arith}
use Rattle.std.specs.Cmp.Lexicographic.{pointwise, same_text}
use Rattle.std.proofs.lemmas.Bool.{eqb-true}
use Rattle.mst_commands.proofs.records.change_of.Goals as goal

not_twice : (b : Bool) → false ≡ not b → true ≡ b
not_twice true h = refl
not_twice false h = sym h

same_bytes : (xs ys : List ℕ) → false ≡ not (pointwise nat_eq xs ys) → xs ≡ ys
same_bytes xs ys h = same_text xs ys (not_twice (pointwise nat_eq xs ys) h)

none_left : (xs : List ℕ) → true ≡ nat_eq (length xs) 0 → xs ≡ []
none_left [] h = refl
none_left (x ∷ xs) h = let none = eqb-true (length (x ∷ xs)) 0 (sym h) in absurd (omega (arith, none))

pub returns-clause-says : goal.returns-clause-says
returns-clause-says c =
    let del = same_bytes c.field-change.result.now c.as_bytes-2.result.now c.if-ne.ensures ∙ c.as_bytes-2.ensures.value in
    let third = sym del ∙ c.field-change.ensures in
    let fourth = sym (none_left c.field.result.now c.if-not-is_empty.ensures) ∙ c.field.ensures in
    (λ i. third i ∷ fourth i ∷ [], tt)
