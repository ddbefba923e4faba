-- Bytes that a call writes for its caller.
use Rattle.std.specs.Prelude.{◌≡◌, ℕ, ◌<◌, ◌≤◌, List, ◌++◌, Option, drop, length}
use Rattle.c_values.specs.Handles.{Has}

-- the bytes are in front of out, and after them it is as before
abbrev pub AreInFront : List ℕ → List ℕ → List ℕ → Type 0
AreInFront bytes old new = (length bytes ≤ length old) × (new ≡ bytes ++ drop (length bytes) old)

-- these bytes, as many as needed, are in front of out, and after them it is as before
abbrev pub IsOutput : List ℕ → List ℕ → ℕ → List ℕ → Type 0
IsOutput old new needed bytes = (needed ≡ length bytes) × (needed ≤ length old) × (new ≡ bytes ++ drop needed old)

-- as many as needed are these bytes, and out is shorter
abbrev pub IsShort : List ℕ → ℕ → List ℕ → Type 0
IsShort out needed bytes = (needed ≡ length bytes) × (length out < needed)

-- the number of what a handle has is told where it is to be, and what was there stays where it isn't
pub record TellsNumber {X : Type 0} (IsToBe IsNot : Type 0) (held : Option X) (number : X → ℕ) (old new : ℕ) : Type 0 where
  pub told : IsToBe → Has held (λ h. new ≡ number h)
  pub stays : IsNot → new ≡ old
