-- What SipHash gives for texts and numbers, under a key.
use Rattle.std.specs.Prelude.{ℕ, List, string_bytes}
use Rattle.std.specs.Int.{w64, to_le_bytes}
use Rattle.std.specs.declared.string.String.{String}
use Rattle.merkle_digest.specs.SipHash.{siphash128}

-- the digest of a text: that of its bytes
abbrev pub text_digest : {Z : Type 0} → List ℕ → String Z → List ℕ
text_digest key text = siphash128 key (string_bytes text)

-- the digest of a number of 64 bits: that of its eight bytes, the lowest first
abbrev pub number_digest : List ℕ → ℕ → List ℕ
number_digest key n = siphash128 key (to_le_bytes w64 n)
