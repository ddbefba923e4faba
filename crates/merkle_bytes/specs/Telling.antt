-- Bytes tell the value that they begin with, and where it ends.
use Rattle.std.proofs.Common.{◌≡◌, ℕ, ◌<◌, ◌≤◌, List, [], ◌∷◌, ◌++◌, length, true, Bool, ◌&&◌, nat_eq, sym, ap, ap₂, ◌∙◌, refl, arith}
use Rattle.std.specs.Cmp.Lexicographic.{pointwise, bytes_decides}
use Rattle.std.proofs.lemmas.Bool.{eq-eqb}
use Rattle.std.proofs.lemmas.List.{append_assoc, length-append}
use Rattle.key_order.proofs.ListParts.{join_tells}
use Rattle.merkle_bytes.specs.Counts.{count_bytes, count_some, count_told}
use Rattle.merkle_bytes.specs.Encodings.{string_encoding}

-- a byte string at the front tells its bytes, and what is after it
pub string_told : (a b r s : List ℕ) → string_encoding a ++ r ≡ string_encoding b ++ s → (a ≡ b) × (r ≡ s)
string_told a b r s e =
    let flat = sym (append_assoc (count_bytes (length a)) a r) ∙ e ∙ append_assoc (count_bytes (length b)) b s in
    let heads = count_told (length a) (length b) (a ++ r) (b ++ s) flat in
    join_tells a b r s heads.0 heads.1

pub some_string : (a : List ℕ) → 1 ≤ length (string_encoding a)
some_string a = omega (arith, count_some (length a), length-append (count_bytes (length a)) a)

-- equal bytes are equal by the test of bytes
pub text_told : (a b r s : List ℕ) → string_encoding a ++ r ≡ string_encoding b ++ s → (pointwise nat_eq a b ≡ true) × (r ≡ s)
text_told a b r s e = let both = string_told a b r s e in ((bytes_decides a b).1 both.0, both.1)

pub some_byte : (n : ℕ) → 1 ≤ length (n ∷ [])
some_byte n = omega arith

pub byte_told : (a b : ℕ) (r s : List ℕ) → a ∷ [] ++ r ≡ b ∷ [] ++ s → (nat_eq a b ≡ true) × (r ≡ s)
byte_told a b r s e =
    let flat : a ∷ r ≡ b ∷ s = e in
    let same : a ≡ b = cc in
    (eq-eqb a b same, cc)

pub unit_told : (r s : List ℕ) → 0 ∷ [] ++ r ≡ 0 ∷ [] ++ s → (true ≡ true) × (r ≡ s)
unit_told r s e =
    let flat : 0 ∷ r ≡ 0 ∷ s = e in
    (refl, cc)

-- a count at the front tells its number, and what is after it
pub number_told : (a b : ℕ) (r s : List ℕ) → count_bytes a ++ r ≡ count_bytes b ++ s → (nat_eq a b ≡ true) × (r ≡ s)
number_told a b r s e = let both = count_told a b r s e in (eq-eqb a b both.0, both.1)

pub pair_some : (a b : List ℕ) → 1 ≤ length a → 1 ≤ length (a ++ b)
pair_some a b some = omega (arith, some, length-append a b)

-- a first and a second that are told by their bytes are told as a pair
pub pair_told : (ax bx ay bby r s : List ℕ) (first second : Bool)
    → (ax ++ (bx ++ r) ≡ ay ++ (bby ++ s) → (first ≡ true) × (bx ++ r ≡ bby ++ s))
    → (bx ++ r ≡ bby ++ s → (second ≡ true) × (r ≡ s))
    → (ax ++ bx) ++ r ≡ (ay ++ bby) ++ s → (first && second ≡ true) × (r ≡ s)
pair_told ax bx ay bby r s first second told_first told_second e =
    let firsts = told_first (sym (append_assoc ax bx r) ∙ e ∙ append_assoc ay bby s) in
    let seconds = told_second firsts.1 in
    (ap₂ (λ x y. x && y) firsts.0 seconds.0, seconds.1)
