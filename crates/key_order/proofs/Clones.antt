-- Clones of keys are the same keys, as the implementations of `SameClone` have it.
use Rattle.std.proofs.Common.{◌≡◌, ℕ, ℤ, List, [], ◌∷◌, ap, refl, sym, subst, string_bytes, vec_len}
use Rattle.std.specs.Array.{AllZipBelow}
use Rattle.std.specs.Borrow.{Bor}
use Rattle.std.specs.Cmp.{IsTotalOrder, tied_itself}
use Rattle.std.specs.Cmp.Lexicographic.{slice_cmp}
use Rattle.std.specs.List.{AllZip}
use Rattle.std.specs.Ordering.{nat_cmp, int_cmp}
use Rattle.std.specs.Prelude.{string_cmp}
use Rattle.std.specs.declared.cmp.Ordering.{Ordering}
use Rattle.std.specs.declared.cmp.Ordering.TheVariants.{Equal}
use Rattle.std.specs.declared.string.String.{String}
use Rattle.std.specs.declared.vec.Vec.{Vec}
use Rattle.std.proofs.lemmas.Cmp.{nat_list_cmp_total, nat_cmp_total, int_cmp_total}
use Rattle.key_order.specs.Order.{Same}

-- a list with the same elements is equal
alike : (xs ys : List ℕ) → ys ≡ xs → slice_cmp nat_cmp xs ys ≡ Equal
alike xs ys e = subst (λ zs. slice_cmp nat_cmp xs zs ≡ Equal) (sym e) (tied_itself nat_list_cmp_total xs)

-- of a `String`
pub string_clone : {Z : Type 0} (x y : String Z) → string_bytes y ≡ string_bytes x → Same (string_cmp {Z = Z}) x y
string_clone x y e = alike (string_bytes x) (string_bytes y) e

-- of a `&str` or a `&[u8]`
pub str_clone : (x y : Bor (List ℕ)) → y ≡ x → Same (λ v w. slice_cmp nat_cmp v.now w.now) x y
str_clone x y e = alike x.now y.now (ap (λ v. v.now) e)

-- of any value whose clone is the value itself
pub exact_clone : {K : Type 0} (cmp : K → K → Ordering) → IsTotalOrder cmp → (x y : K) → y ≡ x → Same cmp x y
exact_clone cmp o x y e = subst (λ z. cmp x z ≡ Equal) (sym e) (tied_itself o x)

-- of an unsigned number
pub unsigned_clone : (x y : ℕ) → y ≡ x → Same nat_cmp x y
unsigned_clone = exact_clone nat_cmp nat_cmp_total

-- of a signed number
pub signed_clone : (x y : ℤ) → y ≡ x → Same int_cmp x y
signed_clone = exact_clone int_cmp int_cmp_total

zipped : (xs ys : List ℕ) → AllZip (λ x y. y ≡ x) xs ys → ys ≡ xs
zipped [] [] h = refl
zipped [] (y ∷ ys) h = absurd h
zipped (x ∷ xs) [] h = absurd h
zipped (x ∷ xs) (y ∷ ys) h = λ i. h.0 i ∷ zipped xs ys h.1 i

-- of a `Vec<u8>`
pub vec_clone : {Z : Type 0} (x y : Vec ℕ Z) → AllZip (λ a b. b ≡ a) x.items y.items × (vec_len y ≡ vec_len x) → Same (λ v w. slice_cmp nat_cmp v.items w.items) x y
vec_clone x y h = alike x.items y.items (zipped x.items y.items h.0)

-- of an array of n bytes
pub array_clone : (n : ℕ) (xs ys : List ℕ) → AllZipBelow (λ a b. b ≡ a) xs ys n → Same (slice_cmp nat_cmp) xs ys
array_clone n xs ys h = alike xs ys (zipped xs ys h.whole)
