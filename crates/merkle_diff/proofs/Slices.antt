-- Parts of a list.
use Rattle.std.proofs.Common.{◌≡◌, ℕ, suc, ◌+◌, ◌<◌, ◌≤◌, length, take, drop, get_or, List, [], ◌∷◌, ◌++◌, map, sym, ap, arith, add-one}
use Rattle.std.proofs.Math.Seq.{drop-cons}
use Rattle.std.proofs.lemmas.Grind.{common_steps}

pub take-filled : {X : Type 0} (k n : ℕ) (xs ys : List X) → k ≤ length xs → length xs ≡ n → take k (take n (xs ++ ys)) ≡ take k xs
take-filled k n xs ys h e = grind (arith, common_steps)

pub drop-past : {X : Type 0} (n : ℕ) (xs : List X) → length xs ≤ n → drop n xs ≡ []
drop-past n xs h = grind (arith, common_steps)

-- what is left from i on begins with what stands at i
pub drop-view : {A B : Type 0} (v : A → B) (i : ℕ) (x : A) (xs : List A) → x ≡ get_or xs i x → i < length xs → map v (drop i xs) ≡ v x ∷ map v (drop (i + 1) xs)
drop-view v i x xs e h = rw (add-one, drop-cons xs i x) (ap (λ y. v y ∷ map v (drop (suc i) xs)) (sym e))
