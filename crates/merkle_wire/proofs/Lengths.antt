-- How long lists are that are alike, or parts of others.
use Rattle.std.proofs.Common.{◌≡◌, ◌≢◌, ◌≤◌, ◌⊎◌, inl, inr, Bool, true, false, List, [], ◌∷◌, length, refl, arith}
use Rattle.std.specs.List.{filter}
use Rattle.std.specs.declared.cmp.Ordering.{Ordering}
use Rattle.key_order.proofs.SameKeys.{SameKeys}
use Rattle.key_order.proofs.Bools.{which}

pub same_keys_length : {K : Type 0} (cmp : K → K → Ordering) (js ks : List K) → SameKeys cmp js ks → length js ≡ length ks
same_keys_length cmp [] [] s = refl
same_keys_length cmp [] (k ∷ ks) s = absurd s
same_keys_length cmp (j ∷ js) [] s = absurd s
same_keys_length cmp (j ∷ js) (k ∷ ks) s = omega (arith, same_keys_length cmp js ks s.1)

pub some_long : {X : Type 0} (xs : List X) → xs ≢ [] → 1 ≤ length xs
some_long [] some = absurd (some refl)
some_long (x ∷ xs) some = omega arith

pub filter_length : {X : Type 0} (test : X → Bool) (xs : List X) → length (filter test xs) ≤ length xs
filter_length test [] = omega arith
filter_length test (x ∷ xs) = go (which (test x)) (filter_length test xs)
  where
    go : (test x ≡ false) ⊎ (test x ≡ true) → length (filter test xs) ≤ length xs → length (filter test (x ∷ xs)) ≤ length (x ∷ xs)
    go (inl n) less = rw n (omega (arith, less))
    go (inr n) less = rw n (omega (arith, less))
