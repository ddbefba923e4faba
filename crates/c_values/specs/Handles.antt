-- What the calls do to what a handle has.
use Rattle.std.specs.Prelude.{◌≡◌, ◌≢◌, ◌⊎◌, ◌↔◌, ℕ, Option, None, Some}

-- the handle has a thing, of which this holds
abbrev pub Has : {X : Type 0} → Option X → (X → Type 0) → Type 0
Has None P = ⊥
Has (Some held) P = P held

-- the handle had a thing and has one, and they are related
abbrev pub Changes : {X : Type 0} → Option X → Option X → (X → X → Type 0) → Type 0
Changes None new R = ⊥
Changes (Some old) None R = ⊥
Changes (Some old) (Some new) R = R old new

-- a handle without a thing is refused by 4, and no other is; and it stays so
pub record RefusesNone {X : Type 0} (status : ℕ) (old new : Option X) : Type 0 where
  pub argument : (status ≡ 4) ↔ (old ≡ None)
  pub unchanged : status ≡ 4 → new ≡ old

-- a handle without a thing is refused by 4, one whose thing lacks what the call is on by 5, and no others are so; and they stay
pub record RefusesWhere {X : Type 0} (Lacks : X → Type 0) (status : ℕ) (old new : Option X) : Type 0 where
  pub argument : (status ≡ 4) ↔ (old ≡ None)
  pub absent : (status ≡ 5) ↔ Has old Lacks
  pub unchanged : (status ≡ 4) ⊎ (status ≡ 5) → new ≡ old

-- a thing with these settings can be made: the handle has none, the level base isn't 0, and the page format is 1 or 2
pub record CanMake {X : Type 0} (held : Option X) (level_base page_format : ℕ) : Type 0 where
  pub empty : held ≡ None
  pub base : level_base ≢ 0
  pub format : (page_format ≡ 1) ⊎ (page_format ≡ 2)

-- it can't: the handle has one, the level base is 0, or the page format is another
abbrev pub CannotMake : {X : Type 0} → Option X → ℕ → ℕ → Type 0
CannotMake held level_base page_format = (held ≢ None) ⊎ (level_base ≡ 0) ⊎ ((page_format ≢ 1) × (page_format ≢ 2))
