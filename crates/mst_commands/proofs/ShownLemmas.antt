-- What no line of a text begins with.
use Rattle.std.proofs.Common.{◌≡◌, ◌≢◌, ℕ, Bool, true, false, cond, codes, List, [], ◌∷◌, ◌++◌, refl, sym, ap, subst, ◌∙◌, true≢false, arith}
use Rattle.std.specs.Prelude.{◌==◌}
use Rattle.std.specs.List.{flat_map}
use Rattle.std.specs.Str.{chars}
use Rattle.std.proofs.lemmas.Str.{encode_ascii, cons_from_encodes}
use Rattle.mst_commands.specs.Escapes.{escape_of, escaped_line}

-- another character than a b is after the backslash
apart : (b : ℕ) (rest tail : List ℕ) → b ≢ 98 → 92 ∷ b ∷ rest ≢ 92 ∷ 98 ∷ tail
apart b rest tail other e = other cc

begins : (c : ℕ) (rest more : List ℕ) → c ∷ rest ≡ 92 ∷ more → c ≡ 92
begins c rest more e = cc

-- by the tests of a character
escaped : (c : ℕ) (rest tail : List ℕ) (tab newline carriage backslash : Bool) → (backslash ≡ false → c ≢ 92)
    → cond tab (codes "\\t") (cond newline (codes "\\n") (cond carriage (codes "\\r") (cond backslash (codes "\\\\") (c ∷ [])))) ++ rest ≢ 92 ∷ 98 ∷ tail
escaped c rest tail true newline carriage backslash other e = apart 116 rest tail (λ same. omega (arith, same)) e
escaped c rest tail false true carriage backslash other e = apart 110 rest tail (λ same. omega (arith, same)) e
escaped c rest tail false false true backslash other e = apart 114 rest tail (λ same. omega (arith, same)) e
escaped c rest tail false false false true other e = apart 92 rest tail (λ same. omega (arith, same)) e
escaped c rest tail false false false false other e = other refl (begins c rest (98 ∷ tail) e)

-- a backslash before a b is in no line
no_line : (cs tail : List ℕ) → flat_map escape_of cs ≢ 92 ∷ 98 ∷ tail
no_line [] tail e = absurd (let k = e in cc)
no_line (c ∷ cs) tail e = escaped c (flat_map escape_of cs) tail (c == 9) (c == 10) (c == 13) (c == 92) (λ differs same. true≢false (subst (λ (n : ℕ). (n == 92) ≡ false) same differs)) e

pub no_text_line : (text tail : List ℕ) → escaped_line text ≢ 92 ∷ 98 ∷ tail
no_text_line text tail e =
    let first = cons_from_encodes (flat_map escape_of (chars text)) (98 ∷ tail) 92 (e ∙ ap (λ (bytes : List ℕ). bytes ++ 98 ∷ tail) (sym (encode_ascii 92 (omega arith)))) in
    let second = cons_from_encodes first.0 tail 98 (first.2 ∙ ap (λ (bytes : List ℕ). bytes ++ tail) (sym (encode_ascii 98 (omega arith)))) in
    no_line (chars text) second.0 (first.1 ∙ ap (λ (more : List ℕ). 92 ∷ more) second.1)
