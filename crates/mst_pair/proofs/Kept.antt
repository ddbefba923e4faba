-- A list that is cut at a length.
use Rattle.arrayvec.specs.ArrayVec.{ArrayVec}
use Rattle.std.proofs.Common.{Result, Ok, Err, IsOk, OnOk, OnErr, ◌≡◌, ℕ, List, [], ◌∷◌, ◌++◌, ◌<◌, length, take, refl, sym, ap, ◌∙◌, arith, length-append, inl, inr}
use Rattle.std.proofs.lemmas.List.{take-append-le}
use Rattle.std.proofs.lemmas.Bool.{cases_lt}
use Rattle.std.proofs.Math.ListN.{length-take}
use Rattle.std.proofs.Math.Seq.{take-append_seam}
use Rattle.std.proofs.lemmas.Grind.{common_steps}

-- one more fits
pub takes_room : (xs : List ℕ) (b n : ℕ) → length xs < n → xs ++ b ∷ [] ≡ take n (xs ++ b ∷ [])
takes_room xs b n room = grind (arith, common_steps, length-append xs (b ∷ []))

-- no more fits
pub takes_full : (xs : List ℕ) (b n : ℕ) → length xs ≡ n → xs ≡ take n (xs ++ b ∷ [])
takes_full xs b n full = sym (rw (← full) (take-append_seam xs (b ∷ [])))

-- a short list is not cut
pub take_short : (xs : List ℕ) (n : ℕ) → length xs < n → take n xs ≡ xs
take_short xs n short = grind (arith, common_steps)

-- what is cut twice is cut once
pub cut_more : (xs : List ℕ) (b n : ℕ) → take n (take n xs ++ b ∷ []) ≡ take n (xs ++ b ∷ [])
cut_more xs b n = elim (cases_lt (length xs) n) [
  | inl small ↦ let e = take_short xs n small in ap (λ ys. take n (ys ++ b ∷ [])) e
  | inr large ↦ let cut : length (take n xs) ≡ n = omega (arith, length-take n xs) in sym (takes_full (take n xs) b n cut) ∙ sym (take-append-le n xs (b ∷ []) large)
]

-- a byte is added where there is room, and else nothing changes
pub pushed : {E : Type 0} (r : Result (Unit {0}) E) (old new : ArrayVec ℕ) (b n : ℕ) → (IsOk r → length old.items < n)
    → OnOk r (new.items ≡ old.items ++ b ∷ []) → OnErr r (new ≡ old) → OnErr r (length old.items ≡ n) → new.items ≡ take n (old.items ++ b ∷ [])
pushed (Ok x) old new b n room added same full = added ∙ takes_room old.items b n (room refl)
pushed (Err e) old new b n room added same full = ap (λ (v : ArrayVec ℕ). v.items) same ∙ takes_full old.items b n full
