-- What is left of what was asked for.
use Rattle.std.proofs.Common.{◌≡◌, ◌≢◌, ℕ, true, false, ◌==◌, List, [], ◌∷◌, length, map, Some, None, refl, ap, inl, inr, arith}
use Rattle.std.specs.Global.{Vec}
use Rattle.std.specs.Vec.{vec_len}
use Rattle.std.proofs.lemmas.Bool.{eqb-true}
use Rattle.std.proofs.lemmas.Bool.Decides.{nat_tests}
use Rattle.merkle_wire.specs.Taking.{AsksAgain}
use Rattle.merkle_wire.specs.declared.question.Question.{Question}

no_items : {X : Type 0} (xs : List X) → length xs ≡ 0 → xs ≡ []
no_items [] n = refl
no_items (x ∷ xs) n = absurd (omega (arith, n))

pub no_bytes : (bytes : List ℕ) → (length bytes == 0) ≡ true → bytes ≡ []
no_bytes bytes e = no_items bytes (eqb-true (length bytes) 0 e)

pub some_bytes : (bytes : List ℕ) → (length bytes == 0) ≡ false → bytes ≢ []
some_bytes bytes e n = let l : length bytes ≡ 0 = ap length n in absurd (grind (arith, nat_tests, e, l))

module _ {X : Type 0} where
  pub none_left : (v : Vec X) → (vec_len v == 0) ≡ true → v.items ≡ []
  none_left v e = let n = eqb-true (vec_len v) 0 e in no_items v.items (omega (arith, v.ok.0, n))

  pub some_left : (v : Vec X) → (vec_len v == 0) ≡ false → v.items ≢ []
  some_left v e n = let l : vec_len v ≡ 0 = omega (arith, v.ok.0, ap length n) in absurd (grind (arith, nat_tests, e, l))

  pub some_mapped : {Y : Type 0} (f : X → Y) (xs : List X) → xs ≢ [] → map f xs ≢ []
  some_mapped f [] some e = some refl
  some_mapped f (x ∷ xs) some e = absurd (cc)

  -- where bytes are left only once all was told, nothing is left while some are
  pub none_before : (left : List X) (bytes : List ℕ) → (left ≢ [] → bytes ≡ []) → bytes ≢ [] → left ≡ []
  none_before [] bytes f some = refl
  none_before (x ∷ xs) bytes f some = absurd (some (f (λ e. absurd (cc))))

module _ {K X : Type 0} (ask : Vec X → Question K) where
  pub asks_none : (left : Vec X) → (vec_len left == 0) ≡ true → AsksAgain ask left.items None
  asks_none left e = inl (none_left left e, refl)

  pub asks_some : (left : Vec X) → (vec_len left == 0) ≡ false → AsksAgain ask left.items (Some (ask left))
  asks_some left e = inr (left, refl, some_left left e, refl)
