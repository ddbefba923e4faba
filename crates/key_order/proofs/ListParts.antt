-- What holds of a list and of its parts, and that the parts of a map are maps.
use Rattle.std.proofs.Common.{◌≡◌, ℕ, List, [], ◌∷◌, ◌++◌, length, refl, arith}
use Rattle.std.specs.List.{AllByRecursion}
use Rattle.std.specs.declared.cmp.Ordering.{Ordering}
use Rattle.key_order.specs.Order.{Below}
use Rattle.key_order.specs.Map.{IsMap}

module _ {X : Type 0} (P : X → Type 0) where
  pub each-append : (xs ys : List X) → AllByRecursion P xs → AllByRecursion P ys → AllByRecursion P (xs ++ ys)
  each-append [] ys a b = b
  each-append (x ∷ xs) ys a b = (a.0, each-append xs ys a.1 b)

  pub each-before : (xs ys : List X) → AllByRecursion P (xs ++ ys) → AllByRecursion P xs
  each-before [] ys a = tt
  each-before (x ∷ xs) ys a = (a.0, each-before xs ys a.1)

  pub each-behind : (xs ys : List X) → AllByRecursion P (xs ++ ys) → AllByRecursion P ys
  each-behind [] ys a = a
  each-behind (x ∷ xs) ys a = each-behind xs ys a.1

  pub each-at : (xs : List X) (y : X) (ys : List X) → AllByRecursion P (xs ++ y ∷ ys) → P y
  each-at xs y ys a = (each-behind xs (y ∷ ys) a).0

module _ {K V : Type 0} (cmp : K → K → Ordering) where
  pub map-first : (xs ys : List (K × V)) → IsMap cmp (xs ++ ys) → IsMap cmp xs
  map-first [] ys m = tt
  map-first (x ∷ xs) ys m = (each-before (λ s. Below cmp x.0 s.0) xs ys m.0, map-first xs ys m.1)

  pub map-rest : (xs ys : List (K × V)) → IsMap cmp (xs ++ ys) → IsMap cmp ys
  map-rest [] ys m = m
  map-rest (x ∷ xs) ys m = map-rest xs ys m.1

  -- the keys before a pair are below its key
  pub map-before : (xs : List (K × V)) (y : K × V) (ys : List (K × V)) → IsMap cmp (xs ++ y ∷ ys) → AllByRecursion (λ p. Below cmp p.0 y.0) xs
  map-before [] y ys m = tt
  map-before (x ∷ xs) y ys m = (each-at (λ s. Below cmp x.0 s.0) xs y ys m.0, map-before xs y ys m.1)

-- where the first parts have one length, joined lists tell both parts
pub join_tells : {X : Type 0} → (xs ys us vs : List X) → length xs ≡ length ys → xs ++ us ≡ ys ++ vs → (xs ≡ ys) × (us ≡ vs)
join_tells [] [] us vs l e = (refl, e)
join_tells [] (y ∷ ys) us vs l e = absurd (omega (arith, l))
join_tells (x ∷ xs) [] us vs l e = absurd (omega (arith, l))
join_tells (x ∷ xs) (y ∷ ys) us vs l e =
    let rest : xs ++ us ≡ ys ++ vs = cc in
    let first : x ≡ y = cc in
    let m : length xs ≡ length ys = omega (arith, l) in
    let w = join_tells xs ys us vs m rest in
    (λ i. first i ∷ w.0 i, w.1)
