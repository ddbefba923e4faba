-- The level of a digest, found by reading byte after byte.
use Rattle.std.proofs.Common.{◌+◌, ◌⊎◌, inl, inr, ◌*◌, ◌%◌, min, cond, ◌≡◌, ◌≢◌, ℕ, zero, suc, ◌<◌, ◌≤◌, Bool, true, false, eqb, List, [], ◌∷◌, length, take, get_or, refl, sym, ◌∙◌, arith}
use Rattle.std.proofs.lemmas.Bool.{eqb-true, eq-eqb, cases_lt, false_from_ne_true}
use Rattle.std.proofs.lemmas.List.{take_more}
use Rattle.std.proofs.lemmas.List.Folds.{list_all-append}
use Rattle.std.specs.List.{list_all}
use Rattle.std.specs.Cmp.{first_so, second_so}
use mir.Val.{bool_byte}
use Rattle.merkle_digest.specs.Level.{greatest, zeros_at_front, level_of}

-- whether all of these bytes are zero
abbrev all_zero : List ℕ → Bool
all_zero bytes = list_all (λ byte. eqb byte 0) bytes

-- the greatest number up to n that passes is the last one that does
greatest-last : (test : ℕ → Bool) (n z : ℕ) → z ≤ n → test z ≡ true → ((k : ℕ) → z < k → k ≤ n → test k ≡ false) → greatest test n ≡ z
greatest-last test zero z within passes above = omega arith
greatest-last test (suc n) z within passes above =
    by (cases_lt z (suc n)) (λ below. greatest-last test n z (omega arith) passes (λ k more fits. above k more (omega arith)))
  where
    by : (z < suc n) ⊎ (suc n ≤ z) → (z < suc n → greatest test n ≡ z) → greatest test (suc n) ≡ z
    by (inl below) before = rw (above (suc n) below (omega arith)) (before below)
    by (inr not_below) before =
        let e : z ≡ suc n = omega arith in
        rw (← e, passes) refl

-- each of the first k bytes is zero, where all of them are
zero_within : (bytes : List ℕ) (k i : ℕ) → all_zero (take k bytes) ≡ true → i < k → i < length bytes → get_or bytes i 0 ≡ 0
zero_within [] k i h lt within = refl
zero_within (x ∷ xs) zero i h lt within = absurd (omega arith)
zero_within (x ∷ xs) (suc k) zero h lt within = eqb-true x 0 (first_so (eqb x 0) (all_zero (take k xs)) h)
zero_within (x ∷ xs) (suc k) (suc i) h lt within = zero_within xs k i (second_so (eqb x 0) (all_zero (take k xs)) h) (omega arith) (omega arith)

-- the first i bytes are zero and the next one is not
pub zeros_at_front-stop : (bytes : List ℕ) (i : ℕ) → all_zero (take i bytes) ≡ true → i < length bytes → get_or bytes i 0 ≢ 0 → zeros_at_front bytes ≡ i
unfolding zeros_at_front
zeros_at_front-stop bytes i so_far within other =
    greatest-last (λ z. all_zero (take z bytes)) (length bytes) i (omega arith) so_far
    (λ k more fits. false_from_ne_true (all_zero (take k bytes)) (λ all. other (zero_within bytes k i all more within)))

-- every byte is zero
pub zeros_at_front-all : (bytes : List ℕ) (i : ℕ) → all_zero (take i bytes) ≡ true → length bytes ≡ i → zeros_at_front bytes ≡ i
unfolding zeros_at_front
zeros_at_front-all bytes i so_far whole =
    greatest-last (λ z. all_zero (take z bytes)) (length bytes) i (omega arith) so_far (λ k more fits. absurd (omega arith))

-- one more zero byte
pub all_zero_more : (bytes : List ℕ) (i : ℕ) → all_zero (take i bytes) ≡ true → i < length bytes → get_or bytes i 0 ≡ 0 → all_zero (take (i + 1) bytes) ≡ true
all_zero_more bytes i so_far within this =
    rw (take_more bytes i 0 within, list_all-append (λ byte. eqb byte 0) (take i bytes) (get_or bytes i 0 ∷ []), so_far, this) refl

-- the level where the first i bytes are zero and the next one is not
pub level_of-stop : (bytes : List ℕ) (base i b level d r : ℕ) → all_zero (take i bytes) ≡ true → i < length bytes → get_or bytes i 0 ≢ 0
    → level ≡ min 255 (2 * i) → b ≡ base → d ≡ bool_byte (eqb (get_or bytes i 0 % b) 0) → r ≡ min (level + d) 255 → r ≡ level_of bytes base
unfolding level_of
level_of-stop bytes base i b level d r so_far within other counted same divides answer =
    let at : zeros_at_front bytes ≡ i = zeros_at_front-stop bytes i so_far within other in
    let inside : eqb i (length bytes) ≡ false = false_from_ne_true (eqb i (length bytes)) (λ e. absurd (omega (arith, eqb-true i (length bytes) e))) in
    rw (at, inside) (by (eqb (get_or bytes i 0 % base) 0) (rw same at divides))
  where
    by : (t : Bool) → d ≡ bool_byte t → r ≡ min 255 (2 * i + cond t 1 0)
    by true e = omega arith
    by false e = omega arith

-- the level where every byte is zero
pub level_of-all : (bytes : List ℕ) (base i level : ℕ) → all_zero (take i bytes) ≡ true → length bytes ≡ i → level ≡ min 255 (2 * i) → level ≡ level_of bytes base
unfolding level_of
level_of-all bytes base i level so_far whole counted =
    let at : zeros_at_front bytes ≡ i = zeros_at_front-all bytes i so_far whole in
    let end : eqb i (length bytes) ≡ true = eq-eqb i (length bytes) (sym whole) in
    rw (at, end) (counted ∙ omega arith)
