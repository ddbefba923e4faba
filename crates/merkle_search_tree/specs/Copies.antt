-- Copies that are equal to what they are made from.
use Rattle.std.specs.Prelude.{◌≡◌, Bool, true}

-- a clone of a key is equal to the key
abbrev pub ClonesAreEqual : {K : Type 0} → (K → K → Type 0) → (K → K → Bool) → Type 0
ClonesAreEqual {K} is_clone eq = (key clone : K) → is_clone key clone → eq key clone ≡ true
