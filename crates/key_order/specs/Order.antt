-- Keys under an order. Keys count as equal where the order does not tell them apart.
use Rattle.std.specs.Prelude.{◌≡◌, Bool, true, false, not, List, [], ◌∷◌, ◌⊎◌, ⊤}
use Rattle.std.specs.List.{AllByRecursion}
use Rattle.std.specs.declared.cmp.Ordering.{Ordering}
use Rattle.std.specs.declared.cmp.Ordering.TheVariants.{Equal}
use Rattle.std.specs.Ordering.{is_gt, is_lt}

-- P holds of some element
abbrev pub AnyByRecursion : {X : Type 0} → (X → Type 0) → List X → Type 0
AnyByRecursion P [] = ⊥
AnyByRecursion P (x ∷ xs) = P x ⊎ AnyByRecursion P xs

module _ {K : Type 0} (cmp : K → K → Ordering) where
  -- a is at most b
  abbrev pub Upto : K → K → Type 0
  Upto a b = is_gt (cmp a b) ≡ false

  -- a is below b
  abbrev pub Below : K → K → Type 0
  Below a b = is_lt (cmp a b) ≡ true

  -- a and b are equal keys
  abbrev pub Same : K → K → Type 0
  Same a b = cmp a b ≡ Equal

  -- each key is below those after it
  abbrev pub IsAscending : List K → Type 0
  IsAscending [] = ⊤
  IsAscending (k ∷ ks) = AllByRecursion (λ j. Below k j) ks × IsAscending ks

  -- the test of `Upto`
  abbrev pub upto : K → K → Bool
  upto a b = not (is_gt (cmp a b))

  -- the test of `Below`
  abbrev pub below : K → K → Bool
  below a b = is_lt (cmp a b)
