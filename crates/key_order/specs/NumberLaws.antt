-- Numbers are joined by the greater one.
use Rattle.std.proofs.Common.{◌≡◌, ℕ, true, subst, arith}
use Rattle.std.specs.Prelude.{max, nat_eq}
use Rattle.std.specs.Cmp.{nat_eq_equiv}
use Rattle.std.proofs.lemmas.Bool.{eqb-true}
use Rattle.key_order.specs.Join.{IsJoining}

equal_numbers : (a b : ℕ) → a ≡ b → nat_eq a b ≡ true
equal_numbers a b e = subst (λ x. nat_eq a x ≡ true) e (nat_eq_equiv.refl a)

pub max_joining : IsJoining nat_eq max
max_joining = record {
  idempotent = λ a. equal_numbers (max a a) a (omega arith);
  commutative = λ a b. equal_numbers (max a b) (max b a) (omega arith);
  associative = λ a b c. equal_numbers (max (max a b) c) (max a (max b c)) (omega arith);
  respects = λ a b c d e f. equal_numbers (max a c) (max b d) (let g : a ≡ b = eqb-true a b e in let h : c ≡ d = eqb-true c d f in omega arith);
}
