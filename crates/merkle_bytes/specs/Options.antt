-- Options as bytes.
use Rattle.std.specs.Prelude.{◌≡◌, ℕ, ◌≤◌, Bool, true, List, [], ◌∷◌, ◌++◌, length, Option, Some, None, ⊤}
use Rattle.std.specs.Option.{option_eq}
use Rattle.std.proofs.Common.{refl, arith}

module _ {X : Type 0} (encoding : X → List ℕ) where
  -- a byte 0, or a byte 1 and the value
  abbrev pub option_bytes : Option X → List ℕ
  option_bytes None = 0 ∷ []
  option_bytes (Some x) = 1 ∷ encoding x

module _ {X : Type 0} (is_value : X → Type 0) where
  abbrev pub IsOption : Option X → Type 0
  IsOption None = ⊤
  IsOption (Some x) = is_value x

module _ {X : Type 0} (encoding : X → List ℕ) where
  pub option_some : (x : Option X) → 1 ≤ length (option_bytes encoding x)
  option_some None = omega arith
  option_some (Some x) = omega arith

  module _ (eq : X → X → Bool) (told : (x y : X) (r s : List ℕ) → encoding x ++ r ≡ encoding y ++ s → (eq x y ≡ true) × (r ≡ s)) where
    pub option_told : (x y : Option X) (r s : List ℕ) → option_bytes encoding x ++ r ≡ option_bytes encoding y ++ s → (option_eq eq x y ≡ true) × (r ≡ s)
    option_told None None r s e =
        let flat : 0 ∷ r ≡ 0 ∷ s = e in
        (refl, cc)
    option_told None (Some y) r s e = absurd (let flat : 0 ∷ r ≡ 1 ∷ (encoding y ++ s) = e in cc)
    option_told (Some x) None r s e = absurd (let flat : 1 ∷ (encoding x ++ r) ≡ 0 ∷ s = e in cc)
    option_told (Some x) (Some y) r s e =
        let flat : 1 ∷ (encoding x ++ r) ≡ 1 ∷ (encoding y ++ s) = e in
        let rest : encoding x ++ r ≡ encoding y ++ s = cc in
        told x y r s rest
