-- Values after a byte 0 or 1.
use Rattle.std.proofs.Common.{◌≢◌, ℕ, Bool, true, false, cond, List, ◌∷◌, ◌++◌, Option, Some, None}
use Rattle.merkle_bytes.specs.Options.{option_bytes, IsOption}

module _ {X : Type 0} (encoding : X → List ℕ) (is_value : X → Type 0) where
  -- no flag stands there, so no option does
  pub no_option : (left : List ℕ) → ((flag : Bool) (rest : List ℕ) → left ≢ cond flag 1 0 ∷ rest) → (x : Option X) (rest : List ℕ) → IsOption is_value x → left ≢ option_bytes encoding x ++ rest
  no_option left none None rest of e = none false rest e
  no_option left none (Some x) rest of e = none true (encoding x ++ rest) e
