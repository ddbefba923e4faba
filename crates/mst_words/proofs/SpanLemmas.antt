-- Which words are no span of time.
use Rattle.std.proofs.Common.{◌≡◌, refl, ap, sym, ◌∙◌, List, [], ◌∷◌, ◌++◌, ℕ, length, Option, Some, None, MatchOption, arith}
use Rattle.std.proofs.lemmas.List.{length_push}
use Rattle.mst_words.specs.Spans.{unit_of, HasUnit, IsManyOf, IsSpan}

-- two texts of which each has one letter after it are the same, and so are the letters, where the wholes are
same-ends : (xs ys : List ℕ) (a b : ℕ) → xs ++ a ∷ [] ≡ ys ++ b ∷ [] → (xs ≡ ys) × (a ≡ b)
same-ends [] [] a b same = (refl, cc)
same-ends [] (y ∷ ys) a b same = absurd (omega (arith, ap length same, length_push ys b))
same-ends (x ∷ xs) [] a b same = absurd (omega (arith, ap length same, length_push xs a))
same-ends (x ∷ xs) (y ∷ ys) a b same =
    let rest : xs ++ a ∷ [] ≡ ys ++ b ∷ [] = cc in
    let ends = same-ends xs ys a b rest in
    (cc, ends.1)

-- a word has one number and one unit, so that it is a span where these make one, and else none
pub span-of : (word count : List ℕ) (unit : ℕ) (found : Option ℕ) → HasUnit word count unit → MatchOption found ((span : ℕ) → ¬ IsManyOf count unit span) (IsManyOf count unit)
    → MatchOption found ((span : ℕ) → ¬ IsSpan word span) (IsSpan word)
span-of word count unit (Some span) has many = (count, unit, has, many)
span-of word count unit None has none = λ span is.
    let ends = same-ends count is.0 has.0 is.2.0 (sym has.1 ∙ is.2.1) in
    let same : Some unit ≡ Some is.1 = sym has.2 ∙ ap unit_of ends.1 ∙ is.2.2 in
    let units : unit ≡ is.1 = cc in
    none span (rw (ends.0, units) is.3)
