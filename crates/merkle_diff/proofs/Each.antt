-- Each element of a list, and some element.
use Rattle.std.proofs.Common.{◌≡◌, ℕ, zero, suc, ◌<◌, length, get_or, List, [], ◌∷◌, ◌++◌, map, refl, sym, subst, ◌⊎◌, inl, inr, arith}
use Rattle.std.specs.List.{AllByRecursion, All, Contains}
use Rattle.std.specs.List.Sorted.{IsPermutation}
use Rattle.std.proofs.lemmas.List.Sorted.{All-permutation, Contains-permutation}
use Rattle.key_order.specs.Order.{AnyByRecursion}

pub any-map : {X : Type 0} (P Q : X → Type 0) (xs : List X) → ((x : X) → P x → Q x) → AnyByRecursion P xs → AnyByRecursion Q xs
any-map P Q [] f h = h
any-map P Q (x ∷ xs) f (inl h) = inl (f x h)
any-map P Q (x ∷ xs) f (inr h) = inr (any-map P Q xs f h)

-- the same, where R is known of each element
pub any-with : {X : Type 0} (R P Q : X → Type 0) (xs : List X) → ((x : X) → R x → P x → Q x) → AllByRecursion R xs → AnyByRecursion P xs → AnyByRecursion Q xs
any-with R P Q [] f a h = h
any-with R P Q (x ∷ xs) f a (inl h) = inl (f x a.0 h)
any-with R P Q (x ∷ xs) f a (inr h) = inr (any-with R P Q xs f a.1 h)

-- in two lists with the same first element
pub any-tail : {X : Type 0} (P : X → Type 0) (x : X) (xs ys : List X) → (AnyByRecursion P xs → AnyByRecursion P ys) → AnyByRecursion P (x ∷ xs) → AnyByRecursion P (x ∷ ys)
any-tail P x xs ys f (inl h) = inl h
any-tail P x xs ys f (inr h) = inr (f h)

pub each-with : {X : Type 0} (R P : X → Type 0) (xs : List X) → ((x : X) → R x → P x) → AllByRecursion R xs → AllByRecursion P xs
each-with R P [] f a = tt
each-with R P (x ∷ xs) f a = (f x a.0, each-with R P xs f a.1)

pub each-both : {X : Type 0} (Q R P : X → Type 0) (xs : List X) → ((x : X) → Q x → R x → P x) → AllByRecursion Q xs → AllByRecursion R xs → AllByRecursion P xs
each-both Q R P [] f a b = tt
each-both Q R P (x ∷ xs) f a b = (f x a.0 b.0, each-both Q R P xs f a.1 b.1)

pub each-mapped : {X Y : Type 0} (v : X → Y) (P : Y → Type 0) (xs : List X) → AllByRecursion (λ x. P (v x)) xs → AllByRecursion P (map v xs)
each-mapped v P [] a = tt
each-mapped v P (x ∷ xs) a = (a.0, each-mapped v P xs a.1)

-- what follows where both hold at one element
pub any-get : {X : Type 0} (R P : X → Type 0) (Q : Type 0) (xs : List X) → ((x : X) → R x → P x → Q) → AllByRecursion R xs → AnyByRecursion P xs → Q
any-get R P Q [] f a h = absurd h
any-get R P Q (x ∷ xs) f a (inl h) = f x a.0 h
any-get R P Q (x ∷ xs) f a (inr h) = any-get R P Q xs f a.1 h

pub any-left : {X : Type 0} (P : X → Type 0) (xs ys : List X) → AnyByRecursion P xs → AnyByRecursion P (xs ++ ys)
any-left P [] ys h = absurd h
any-left P (x ∷ xs) ys (inl h) = inl h
any-left P (x ∷ xs) ys (inr h) = inr (any-left P xs ys h)

pub any-right : {X : Type 0} (P : X → Type 0) (xs ys : List X) → AnyByRecursion P ys → AnyByRecursion P (xs ++ ys)
any-right P [] ys h = h
any-right P (x ∷ xs) ys h = inr (any-right P xs ys h)

pub any-split : {X : Type 0} (P : X → Type 0) (xs ys : List X) → AnyByRecursion P (xs ++ ys) → AnyByRecursion P xs ⊎ AnyByRecursion P ys
any-split P [] ys h = inr h
any-split P (x ∷ xs) ys (inl h) = inl (inl h)
any-split P (x ∷ xs) ys (inr h) = go (any-split P xs ys h)
  where
    go : AnyByRecursion P xs ⊎ AnyByRecursion P ys → AnyByRecursion P (x ∷ xs) ⊎ AnyByRecursion P ys
    go (inl k) = inl (inr k)
    go (inr k) = inr k

pub any-unmapped : {X Y : Type 0} (v : X → Y) (P : Y → Type 0) (xs : List X) → AnyByRecursion P (map v xs) → AnyByRecursion (λ x. P (v x)) xs
any-unmapped v P [] h = h
any-unmapped v P (x ∷ xs) (inl h) = inl h
any-unmapped v P (x ∷ xs) (inr h) = inr (any-unmapped v P xs h)

pub each-unmapped : {X Y : Type 0} (v : X → Y) (P : Y → Type 0) (xs : List X) → AllByRecursion P (map v xs) → AllByRecursion (λ x. P (v x)) xs
each-unmapped v P [] h = tt
each-unmapped v P (x ∷ xs) h = (h.0, each-unmapped v P xs h.1)

pub every-in : {X : Type 0} (xs : List X) → AllByRecursion (λ x. AnyByRecursion (λ y. y ≡ x) xs) xs
every-in [] = tt
every-in (x ∷ xs) = (inl refl, each-with (λ z. AnyByRecursion (λ y. y ≡ z) xs) (λ z. AnyByRecursion (λ y. y ≡ z) (x ∷ xs)) xs (λ z h. inr h) (every-in xs))

pub each-all : {X : Type 0} (Q : X → Type 0) (xs : List X) → ((x : X) → Q x) → AllByRecursion Q xs
each-all Q [] f = tt
each-all Q (x ∷ xs) f = (f x, each-all Q xs f)

-- where no element has P, each lacks it
pub each-not : {X : Type 0} (P : X → Type 0) (xs : List X) → ¬ (AnyByRecursion P xs) → AllByRecursion (λ x. ¬ (P x)) xs
each-not P [] n = tt
each-not P (x ∷ xs) n = ((λ h. n (inl h)), each-not P xs (λ h. n (inr h)))

pub none-of : {X : Type 0} (P : X → Type 0) (xs : List X) → AllByRecursion (λ x. ¬ (P x)) xs → ¬ (AnyByRecursion P xs)
none-of P xs a h = any-get (λ x. ¬ (P x)) P ⊥ xs (λ x n p. n p) a h

pub each-of_All : {X : Type 0} (P : X → Type 0) (xs : List X) → All P xs → AllByRecursion P xs
each-of_All P [] h = tt
each-of_All P (x ∷ xs) h = (h 0 x (omega arith), each-of_All P xs (λ k d l. h (suc k) d (omega arith)))

pub All-of_each : {X : Type 0} (P : X → Type 0) (xs : List X) → AllByRecursion P xs → All P xs
All-of_each P [] h k d l = absurd (omega arith)
All-of_each P (x ∷ xs) h zero d l = h.0
All-of_each P (x ∷ xs) h (suc k) d l = All-of_each P xs h.1 k d (omega arith)

pub any-Contains : {X : Type 0} (P : X → Type 0) (xs : List X) → AnyByRecursion P xs → (x : X) × Contains xs x × P x
any-Contains P [] h = absurd h
any-Contains P (x ∷ xs) (inl h) = (x, (0, omega arith, refl), h)
any-Contains P (x ∷ xs) (inr h) = let r = any-Contains P xs h in (r.0, (suc r.1.0, omega (arith, r.1.1), r.1.2), r.2)

pub any-of_Contains : {X : Type 0} (P : X → Type 0) (xs : List X) (x : X) → Contains xs x → P x → AnyByRecursion P xs
any-of_Contains {X} P xs x c p = go xs c.0 c.1 c.2
  where
    go : (ys : List X) (k : ℕ) → k < length ys → get_or ys k x ≡ x → AnyByRecursion P ys
    go [] k l e = absurd (omega arith)
    go (y ∷ ys) zero l e = inl (subst P (sym e) p)
    go (y ∷ ys) (suc k) l e = inr (go ys k (omega arith) e)

pub each-permuted : {X : Type 0} (P : X → Type 0) (xs ys : List X) → IsPermutation xs ys → AllByRecursion P xs → AllByRecursion P ys
each-permuted P xs ys p h = each-of_All P ys (All-permutation P xs ys p (All-of_each P xs h))

pub any-permuted : {X : Type 0} (P : X → Type 0) (xs ys : List X) → IsPermutation xs ys → AnyByRecursion P xs → AnyByRecursion P ys
any-permuted P xs ys p h = let r = any-Contains P xs h in any-of_Contains P ys r.0 (Contains-permutation xs ys r.0 p r.1) r.2
