-- Which words are no hash key.
use Rattle.std.proofs.Common.{◌≡◌, ◌≢◌, ap, List, [], ◌∷◌, ℕ, ◌<◌, ◌^◌, arith}
use Rattle.std.specs.Char.{digit_value}
use Rattle.std.specs.Str.Parse.{IsNumeral, digits_value, without_leading_plus}
use Rattle.std.proofs.lemmas.Str.Parse.{without_leading_plus_none}
use Rattle.std.proofs.lemmas.Int.Digits.{digits_value-lt}
use Rattle.std.proofs.Math.ListN.{get_or}
use Rattle.mst_words.specs.HashKeys.{IsHashKey}

-- a plus is no digit
no-plus : (word : List ℕ) → IsNumeral 16 word → get_or word 0 0 ≢ 43
no-plus [] numeral is = omega (arith, numeral.0)
no-plus (c ∷ cs) numeral is = let same : digit_value c ≡ digit_value 43 = ap digit_value is in omega (arith, numeral.1.0, same)

-- what isn't read as a number of 128 bits is none
pub no-hash-key : (word : List ℕ) → ¬ (IsNumeral 16 (without_leading_plus word) × (digits_value 16 (without_leading_plus word) < 2 ^ 128)) → (key : List ℕ) → ¬ IsHashKey word key
no-hash-key word unread key is =
    let below : digits_value 16 word < 16 ^ 32 = rw is.0 at (digits_value-lt 16 word is.1.1) in
    unread (rw (without_leading_plus_none word (no-plus word is.1)) (is.1, below))
