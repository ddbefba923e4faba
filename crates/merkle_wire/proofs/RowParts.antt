-- The first of some rows are a part of them.
use Rattle.std.proofs.Common.{◌≡◌, ◌≢◌, ℕ, zero, suc, ◌≤◌, true, false, nat_eq, List, [], ◌∷◌, ◌++◌, length, take, drop, refl, sym, eqb-true, arith}
use Rattle.std.proofs.lemmas.List.{take-append-drop}

none_left : {X : Type 0} (xs : List X) (n : ℕ) → n ≡ length xs → drop n xs ≡ []
none_left [] zero e = refl
none_left [] (suc n) e = absurd (omega arith)
none_left (x ∷ xs) zero e = absurd (omega arith)
none_left (x ∷ xs) (suc n) e = none_left xs n (omega arith)

some_taken : {X : Type 0} (xs : List X) (n : ℕ) → n ≤ length xs → (xs ≢ [] → n ≢ 0) → nat_eq n (length xs) ≡ false → take n xs ≢ []
some_taken [] zero inside some more none = (let e = more in cc)
some_taken [] (suc n) inside some more none = absurd (omega arith)
some_taken (x ∷ xs) zero inside some more none = some (λ e. let f = e in cc) refl
some_taken (x ∷ xs) (suc n) inside some more none = (let e = none in cc)

-- they are all, or at least one
pub part_of : {X : Type 0} (xs : List X) (n : ℕ) → n ≤ length xs → (xs ≢ [] → n ≢ 0)
    → (xs ≡ take n xs ++ drop n xs) × (nat_eq n (length xs) ≡ true → drop n xs ≡ []) × (nat_eq n (length xs) ≡ false → take n xs ≢ [])
part_of xs n inside some = (sym (take-append-drop n xs), (λ w. none_left xs n (eqb-true n (length xs) w)), some_taken xs n inside some)
