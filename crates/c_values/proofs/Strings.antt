-- Numbers, strings and rows as bytes: each tells where it ends, so it is read in one way.
use Rattle.std.proofs.Common.{◌≡◌, ℕ, ◌+◌, ◌<◌, ◌≤◌, ◌^◌, List, ◌++◌, length, sym, ap, ◌∙◌, arith}
use Rattle.std.proofs.lemmas.List.{append_assoc, length-append}
use Rattle.key_order.proofs.ListParts.{join_tells}
use Rattle.key_order.proofs.Numbers.{number_tells}
use Rattle.c_values.specs.Lists.{number_bytes, sized_bytes, sized_row}

pub one_number : (m n : ℕ) (r s : List ℕ) → m < 2 ^ 64 → n < 2 ^ 64 → number_bytes m ++ r ≡ number_bytes n ++ s → (m ≡ n) × (r ≡ s)
one_number m n r s p q e =
    let both = join_tells (number_bytes m) (number_bytes n) r s (λ i. 8) e in
    (number_tells m n p q both.0, both.1)

-- a string that is written at the front isn't longer than the whole
text_fits : (t r bytes : List ℕ) → bytes ≡ sized_bytes t ++ r → length t + 8 + length r ≡ length bytes
text_fits t r bytes e = omega (arith, ap length e, length-append (sized_bytes t) r, length-append (number_bytes (length t)) t)

pub one_text : (t u r s : List ℕ) → length (sized_bytes t ++ r) < 2 ^ 64 → sized_bytes t ++ r ≡ sized_bytes u ++ s → (t ≡ u) × (r ≡ s)
one_text t u r s fits e =
    let flat = sym (append_assoc (number_bytes (length t)) t r) ∙ e ∙ append_assoc (number_bytes (length u)) u s in
    let at_t : length t < 2 ^ 64 = omega (arith, text_fits t r (sized_bytes t ++ r) (λ i. sized_bytes t ++ r)) in
    let at_u : length u < 2 ^ 64 = omega (arith, text_fits u s (sized_bytes t ++ r) e) in
    let both = one_number (length t) (length u) (t ++ r) (u ++ s) at_t at_u flat in
    join_tells t u r s both.0 both.1

pub one_row : (x y : List ℕ × List ℕ) (r s : List ℕ) → length (sized_row x ++ r) < 2 ^ 64 → sized_row x ++ r ≡ sized_row y ++ s → (x ≡ y) × (r ≡ s)
one_row x y r s fits e =
    let at = append_assoc (sized_bytes x.0) (sized_bytes x.1) r in
    let first = one_text x.0 y.0 (sized_bytes x.1 ++ r) (sized_bytes y.1 ++ s) (omega (arith, ap length at)) (sym at ∙ e ∙ append_assoc (sized_bytes y.0) (sized_bytes y.1) s) in
    let second = one_text x.1 y.1 r s (omega (arith, ap length at, length-append (sized_bytes x.0) (sized_bytes x.1 ++ r))) first.1 in
    ((λ i. (first.0 i, second.0 i)), second.1)

-- a row and this many bytes after it
pub one_row_with : (x y : List ℕ × List ℕ) (a b r s : List ℕ) → length a ≡ length b → length (sized_row x ++ (a ++ r)) < 2 ^ 64
    → sized_row x ++ (a ++ r) ≡ sized_row y ++ (b ++ s) → (x ≡ y) × (a ≡ b) × (r ≡ s)
one_row_with x y a b r s same fits e =
    let both = one_row x y (a ++ r) (b ++ s) fits e in
    let rest = join_tells a b r s same both.1 in
    (both.0, rest.0, rest.1)

pub row_length : (x : List ℕ × List ℕ) (rest : List ℕ) → length (sized_row x ++ rest) ≡ 16 + length x.0 + length x.1 + length rest
row_length x rest =
    omega (arith, length-append (sized_row x) rest, length-append (sized_bytes x.0) (sized_bytes x.1), length-append (number_bytes (length x.0)) x.0, length-append (number_bytes (length x.1)) x.1)

pub some_row : (x : List ℕ × List ℕ) → 1 ≤ length (sized_row x)
some_row x = omega (arith, length-append (sized_bytes x.0) (sized_bytes x.1), length-append (number_bytes (length x.0)) x.0)
