-- The digests of the level hasher.
use Rattle.std.specs.Prelude.{◌≡◌, ℕ, zero, suc, ◌/◌, ◌%◌, ◌==◌, ◌&&◌, Bool, true, nat_lt, List, [], ◌∷◌, slice_index_or, if◌then◌else◌, refl}
use Rattle.std.specs.Int.{w64, to_le_bytes}
use Rattle.std.specs.Cmp.{IsEquivalence}
use Rattle.std.proofs.Common.{ap, ◌∙◌}

-- the level at a key: that of the first pair whose key is equal, or 0
abbrev pub level_at : {K : Type 0} → (K → K → Bool) → List (K × ℕ) → K → ℕ
level_at eq [] k = 0
level_at eq (p ∷ ps) k = if eq p.0 k then p.1 else level_at eq ps k

-- the byte at place i of a digest on a level in base 16: zeros, then f0 where the level is odd, then ones
abbrev pub level_byte : ℕ → ℕ → ℕ
level_byte level i = if nat_lt i (level / 2) then 0 else (if (i == level / 2) && (level % 2 == 1) then 0xf0 else 1)

-- the byte at place i of the digest of a value: its own bytes, the lowest first, then ones
abbrev pub value_byte : ℕ → ℕ → ℕ
value_byte value i = slice_index_or (to_le_bytes w64 value) i 1

-- the n bytes from place i on
abbrev pub bytes_from : (ℕ → ℕ) → ℕ → ℕ → List ℕ
bytes_from byte zero i = []
bytes_from byte (suc n) i = byte i ∷ bytes_from byte n (suc i)

-- equal keys are on one level
pub level_at-same : {K : Type 0} (eq : K → K → Bool) → IsEquivalence eq → (ps : List (K × ℕ)) (a b : K) → eq a b ≡ true → level_at eq ps a ≡ level_at eq ps b
level_at-same eq e [] a b h = refl
level_at-same eq e (p ∷ ps) a b h = (λ i. if (e.symm p.0 a ∙ e.congr a b p.0 h ∙ e.symm b p.0) i then p.1 else level_at eq ps a) ∙ ap (λ n. if eq p.0 b then p.1 else n) (level_at-same eq e ps a b h)

-- the digest of a key, n bytes long
abbrev pub level_bytes : {K : Type 0} → ℕ → (K → K → Bool) → List (K × ℕ) → K → List ℕ
level_bytes n eq ps k = bytes_from (level_byte (level_at eq ps k)) n 0

-- equal keys have equal digests
pub level_bytes-same : {K : Type 0} (n : ℕ) (eq : K → K → Bool) → IsEquivalence eq → (ps : List (K × ℕ)) (a b : K) → eq a b ≡ true → level_bytes n eq ps a ≡ level_bytes n eq ps b
level_bytes-same n eq e ps a b h = ap (λ level. bytes_from (level_byte level) n 0) (level_at-same eq e ps a b h)
