-- Counts as bytes: few where they are small.
use Rattle.std.proofs.Common.{◌≡◌, ℕ, zero, suc, ◌+◌, ◌-◌, ◌/◌, ◌%◌, ◌<◌, ◌≤◌, List, [], ◌∷◌, ◌++◌, length, if◌then◌else◌, nat_lt, arith, sym, ap, refl, ◌∙◌, inl, inr}
use Rattle.std.specs.Prelude.{◌≢◌, ◌^◌}
use Rattle.std.proofs.lemmas.Bool.{cases_lt}
use Rattle.std.proofs.lemmas.Bool.Decides.{nat_tests}

-- seven bits a byte, the lowest first, with 128 more in each byte but the last; at most `more` bytes come before the last
unfoldable pub bits_bytes : ℕ → ℕ → List ℕ
bits_bytes zero n = n ∷ []
bits_bytes (suc more) n = if (nat_lt n 128) then (n ∷ []) else ((128 + n % 128) ∷ bits_bytes more (n / 128))

-- a count below 2 ^ 64: at most ten bytes
unfoldable pub count_bytes : ℕ → List ℕ
count_bytes n = bits_bytes 9 n

-- the number has the seven bits of a byte that is not the last, and these higher bits
abbrev pub HasBits : ℕ → ℕ → ℕ → Type 0
HasBits byte high n = (128 ≤ n) × (byte ≡ 128 + n % 128) × (n / 128 ≡ high)

-- no number below 2 ^ 64 has them
abbrev pub NoneHasBits : ℕ → ℕ → Type 0
NoneHasBits byte high = (n : ℕ) → 128 ≤ n → n < 2 ^ 64 → byte ≡ 128 + n % 128 → n / 128 ≢ high

-- a number below 128 is its byte
pub bits_few : (more n : ℕ) → n < 128 → bits_bytes more n ≡ n ∷ []
unfolding bits_bytes
bits_few zero n low = refl
bits_few (suc more) n low = grind (arith, nat_tests)

pub bits_last : (n : ℕ) → bits_bytes 0 n ≡ n ∷ []
unfolding bits_bytes
bits_last n = refl

-- any other is its lowest seven bits, and the bytes of the others
bits_high : (more n : ℕ) → 128 ≤ n → bits_bytes (suc more) n ≡ (128 + n % 128) ∷ bits_bytes more (n / 128)
unfolding bits_bytes
bits_high more n high = grind (arith, nat_tests)

pub bits_more : (more n : ℕ) → 0 < more → 128 ≤ n → bits_bytes more n ≡ (128 + n % 128) ∷ bits_bytes (more - 1) (n / 128)
bits_more zero n some high = absurd (omega arith)
bits_more (suc more) n some high = let less : suc more - 1 ≡ more = omega arith in bits_high more n high ∙ ap (λ m. (128 + n % 128) ∷ bits_bytes m (n / 128)) (sym less)

-- a byte of 128 or more begins a number of 128 or more
pub bits_parts : (more n byte : ℕ) (behind rest : List ℕ) → 0 < more → 128 ≤ byte → byte ∷ behind ≡ bits_bytes more n ++ rest
    → (128 ≤ n) × (byte ≡ 128 + n % 128) × (behind ≡ bits_bytes (more - 1) (n / 128) ++ rest)
bits_parts more n byte behind rest some big e = elim (cases_lt n 128) [
  | inl low ↦ (let flat : byte ∷ behind ≡ n ∷ rest = e ∙ ap (λ x. x ++ rest) (bits_few more n low) in let same : byte ≡ n = cc in absurd (omega arith))
  | inr high ↦ (let flat : byte ∷ behind ≡ (128 + n % 128) ∷ (bits_bytes (more - 1) (n / 128) ++ rest) = e ∙ ap (λ x. x ++ rest) (bits_more more n some high) in (high, cc, cc))
]

-- bytes that begin with those of a number tell it, and what is after it
pub bits_told : (more m n : ℕ) (r s : List ℕ) → bits_bytes more m ++ r ≡ bits_bytes more n ++ s → (m ≡ n) × (r ≡ s)
bits_told zero m n r s e = let flat : m ∷ r ≡ n ∷ s = ap (λ x. x ++ r) (sym (bits_last m)) ∙ e ∙ ap (λ x. x ++ s) (bits_last n) in (cc, cc)
bits_told (suc more) m n r s e = elim (cases_lt m 128) [
  | inl low ↦ elim (cases_lt n 128) [
    | inl few ↦ (let flat : m ∷ r ≡ n ∷ s = ap (λ x. x ++ r) (sym (bits_few (suc more) m low)) ∙ e ∙ ap (λ x. x ++ s) (bits_few (suc more) n few) in (cc, cc))
    | inr many ↦ (let flat : m ∷ r ≡ (128 + n % 128) ∷ (bits_bytes more (n / 128) ++ s) = ap (λ x. x ++ r) (sym (bits_few (suc more) m low)) ∙ e ∙ ap (λ x. x ++ s) (bits_high more n many) in
        let same : m ≡ 128 + n % 128 = cc in absurd (omega arith))
  ]
  | inr high ↦ elim (cases_lt n 128) [
    | inl few ↦ (let flat : (128 + m % 128) ∷ (bits_bytes more (m / 128) ++ r) ≡ n ∷ s = ap (λ x. x ++ r) (sym (bits_high more m high)) ∙ e ∙ ap (λ x. x ++ s) (bits_few (suc more) n few) in
        let same : 128 + m % 128 ≡ n = cc in absurd (omega arith))
    | inr many ↦ (let flat : (128 + m % 128) ∷ (bits_bytes more (m / 128) ++ r) ≡ (128 + n % 128) ∷ (bits_bytes more (n / 128) ++ s)
        = ap (λ x. x ++ r) (sym (bits_high more m high)) ∙ e ∙ ap (λ x. x ++ s) (bits_high more n many) in
        let lows : 128 + m % 128 ≡ 128 + n % 128 = cc in
        let rest : bits_bytes more (m / 128) ++ r ≡ bits_bytes more (n / 128) ++ s = cc in
        let highs = bits_told more (m / 128) (n / 128) r s rest in
        (omega (arith, highs.0), highs.1))
  ]
]

-- there is a byte
pub bits_some : (more n : ℕ) → 1 ≤ length (bits_bytes more n)
bits_some more n = elim (cases_lt n 128) [
  | inl low ↦ omega (arith, ap length (bits_few more n low))
  | inr high ↦ elim (cases_lt 0 more) [
    | inl some ↦ omega (arith, ap length (bits_more more n some high))
    | inr none ↦ (let is : more ≡ 0 = omega arith in omega (arith, ap length (ap (λ m. bits_bytes m n) is ∙ bits_last n)))
  ]
]

-- there is a byte
pub count_some : (n : ℕ) → 1 ≤ length (count_bytes n)
unfolding count_bytes
count_some n = bits_some 9 n

-- bytes that begin with those of a count tell it, and what is after it
pub count_told : (m n : ℕ) (r s : List ℕ) → count_bytes m ++ r ≡ count_bytes n ++ s → (m ≡ n) × (r ≡ s)
unfolding count_bytes
count_told m n r s e = bits_told 9 m n r s e
