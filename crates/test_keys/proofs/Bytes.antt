-- Digests byte by byte.
use Rattle.std.proofs.Common.{◌≡◌, ℕ, zero, suc, ◌+◌, ◌<◌, List, [], ◌∷◌, ◌++◌, length, take, refl, ap, sym, ◌∙◌, arith}
use Rattle.std.specs.Prelude.{slice_set}
use Rattle.std.proofs.lemmas.List.{take_more_set}
use Rattle.test_keys.specs.LevelBytes.{bytes_from}

-- one more byte at the end
pub bytes_from-more : (byte : ℕ → ℕ) (n i : ℕ) → bytes_from byte n i ++ byte (i + n) ∷ [] ≡ bytes_from byte (suc n) i
bytes_from-more byte zero i = let e : i + 0 ≡ i = omega arith in ap (λ m. byte m ∷ []) e
bytes_from-more byte (suc n) i = let e : i + suc n ≡ suc i + n = omega arith in ap (λ m. byte i ∷ (bytes_from byte n (suc i) ++ byte m ∷ [])) e
    ∙ ap (λ bs. byte i ∷ bs) (bytes_from-more byte n (suc i))

-- a loop that writes the bytes in order
pub write_more : (byte : ℕ → ℕ) (bytes : List ℕ) (i x : ℕ) → i < length bytes → x ≡ byte i → take i bytes ≡ bytes_from byte i 0 → take (i + 1) (slice_set bytes i x) ≡ bytes_from byte (i + 1) 0
write_more byte bytes i x r e h =
    let n : i + 1 ≡ suc i = omega arith in
    let z : 0 + i ≡ i = omega arith in
    take_more_set bytes i x r ∙ (λ j. h j ++ (e ∙ ap byte (sym z)) j ∷ []) ∙ bytes_from-more byte i 0 ∙ ap (λ m. bytes_from byte m 0) (sym n)

pub set_length : (xs : List ℕ) (i x : ℕ) → length (slice_set xs i x) ≡ length xs
set_length [] i x = refl
set_length (y ∷ ys) zero x = refl
set_length (y ∷ ys) (suc i) x = let l = set_length ys i x in omega arith
