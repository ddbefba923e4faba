-- Numbers are told by their bytes.
use Rattle.std.proofs.Common.{◌≡◌, ◌<◌, ◌^◌, ℕ, ap, sym, ◌∙◌}
use Rattle.std.specs.Int.{w64, to_le_bytes, from_le_bytes}
use Rattle.std.proofs.lemmas.Nat.{from_le_bytes-to_le_bytes_8}

-- eight bytes tell a number below 2 ^ 64
pub number_tells : (m n : ℕ) → m < 2 ^ 64 → n < 2 ^ 64 → to_le_bytes w64 m ≡ to_le_bytes w64 n → m ≡ n
number_tells m n a b e = sym (from_le_bytes-to_le_bytes_8 m a) ∙ ap (from_le_bytes w64) e ∙ from_le_bytes-to_le_bytes_8 n b
