-- A fact of which there merely is a proof has one to be taken, where it is decided or has one proof at most, and so for what is made of such.
use Rattle.std.proofs.Common.{◌≡◌, ◌⊎◌, ℕ, ◌<◌, ◌≤◌, List, [], ◌∷◌, inl, inr, arith}
use Rattle.std.proofs.Math.Logic.{∥∥₁_elim, ∥∥₁_map}
use Rattle.std.proofs.lemmas.Bool.{cases_lt}
use mathlib.Core.HLevel.{⊥_prop, Σ_prop_path}
use Rattle.sqlite_btree.specs.Cut.{Each}

-- a proof can be taken where there merely is one
abbrev pub Taken : Type 0 → Type 0
Taken A = ∥ A ∥₁ → A

pub of_prop : {A : Type 0} → IsProp A → Taken A
of_prop one h = ∥∥₁_elim h one (λ x. x)

pub of_cases : {A : Type 0} → A ⊎ ¬ A → Taken A
of_cases (inl a) h = a
of_cases (inr never) h = absurd (∥∥₁_elim h ⊥_prop never)

pub of_both : {A B : Type 0} → Taken A → Taken B → Taken (A × B)
of_both a b h = (a (∥∥₁_map h (λ x. x.0)), b (∥∥₁_map h (λ x. x.1)))

pub of_all : {X : Type 0} {P : X → Type 0} → ((x : X) → Taken (P x)) → Taken ((x : X) → P x)
of_all each h x = each x (∥∥₁_map h (λ f. f x))

pub of_either : {A B : Type 0} → A ⊎ ¬ A → Taken B → Taken (A ⊎ B)
of_either (inl a) b h = inl a
of_either (inr never) b h = inr (b (∥∥₁_map h (λ x. elim x [ inl a ↦ absurd (never a) | inr y ↦ y ])))

pub of_each : {X : Type 0} (P : X → Type 0) → ((x : X) → Taken (P x)) → (xs : List X) → Taken (Each P xs)
of_each P each [] = λ _. tt
of_each P each (x ∷ xs) = of_both (each x) (of_each P each xs)

-- what has a fact that no other has is found
pub only_one : {A : Type 0} {P : A → Type 0} → IsSet A → ((a b : A) → P a → P b → a ≡ b) → ∥ ((a : A) × P a) ∥₁ → (a : A) × ∥ P a ∥₁
only_one set one h =
    ∥∥₁_elim h (λ x y. Σ_prop_path (λ _. squash₁) (∥∥₁_elim x.1 (set _ _) (λ p. ∥∥₁_elim y.1 (set _ _) (λ q. one x.0 y.0 p q)))) (λ x. (x.0, ∣ x.1 ∣₁))

pub both_cases : {A B : Type 0} → A ⊎ ¬ A → B ⊎ ¬ B → (A × B) ⊎ ¬ (A × B)
both_cases (inl a) (inl b) = inl (a, b)
both_cases (inl a) (inr never) = inr (λ x. never x.1)
both_cases (inr never) b = inr (λ x. never x.0)

pub either_cases : {A B : Type 0} → A ⊎ ¬ A → B ⊎ ¬ B → (A ⊎ B) ⊎ ¬ (A ⊎ B)
either_cases (inl a) b = inl (inl a)
either_cases (inr never) (inl b) = inl (inr b)
either_cases (inr never) (inr none) = inr (λ x. elim x [ inl a ↦ never a | inr b ↦ none b ])

pub le_cases : (a b : ℕ) → (a ≤ b) ⊎ ¬ (a ≤ b)
le_cases a b = elim (cases_lt b a) [ inl lt ↦ inr (λ le. omega (arith, lt, le)) | inr ge ↦ inl ge ]

pub lt_cases : (a b : ℕ) → (a < b) ⊎ ¬ (a < b)
lt_cases a b = elim (cases_lt a b) [ inl lt ↦ inl lt | inr ge ↦ inr (λ lt. omega (arith, lt, ge)) ]
