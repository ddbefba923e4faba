-- What a loop over lists has found of their first elements.
use Rattle.std.proofs.Common.{◌≡◌, ℕ, zero, suc, ◌+◌, ◌<◌, ◌≤◌, List, [], ◌∷◌, ◌++◌, map, length, take, get_or, refl, sym, ◌∙◌, ap, subst, arith}
use Rattle.std.proofs.lemmas.List.{map-append, take_all, take_more}
use Rattle.std.specs.List.{AllByRecursion}
use Rattle.std.specs.declared.cmp.Ordering.{Ordering}
use Rattle.key_order.specs.Map.{SameMap}
use Rattle.key_order.specs.Order.{Same}
use Rattle.key_order.proofs.ListParts.{each-append}
use Rattle.key_order.proofs.SameMaps.{same-append}
use Rattle.merkle_search_tree.specs.Loading.{digests}

one_more : {X : Type 0} (xs : List X) (i : ℕ) (x : X) → i < length xs → x ≡ get_or xs i x → take (i + 1) xs ≡ take i xs ++ x ∷ []
one_more xs i x inside e = take_more xs i x inside ∙ ap (λ y. take i xs ++ y ∷ []) (sym e)

module _ {X Y : Type 0} (P : Y → Type 0) (f : X → Y) where
  -- what holds of the first elements and of the next holds of one more
  pub each_more : (xs : List X) (i : ℕ) (x : X) → i < length xs → x ≡ get_or xs i x → AllByRecursion P (map f (take i xs)) → P (f x) → AllByRecursion P (map f (take (i + 1) xs))
  each_more xs i x inside e all next =
      subst (AllByRecursion P) (sym (ap (map f) (one_more xs i x inside e) ∙ map-append f (take i xs) (x ∷ []))) (each-append P (map f (take i xs)) (f x ∷ []) all (next, tt))

  -- and at the end of all
  pub each_of_all : (xs : List X) (i : ℕ) → length xs ≤ i → AllByRecursion P (map f (take i xs)) → AllByRecursion P (map f xs)
  each_of_all xs i ends all = subst (λ ys. AllByRecursion P (map f ys)) (take_all i xs ends) all

  -- what holds of all holds of the one at a place
  pub each_there : (xs : List X) (i : ℕ) (x : X) → i < length xs → x ≡ get_or xs i x → AllByRecursion P (map f xs) → P (f x)
  each_there [] i x inside e all = absurd (omega arith)
  each_there (y ∷ xs) zero x inside e all = subst (λ z. P (f z)) (sym e) all.0
  each_there (y ∷ xs) (suc i) x inside e all = each_there xs i x (omega arith) e all.1

module _ {K V : Type 0} (cmp : K → K → Ordering) (f g : V → List ℕ) where
  -- two rows have equal keys and equal digests
  abbrev IsAlike : K × V → K × V → Type 0
  IsAlike r s = Same cmp r.0 s.0 × (f r.1 ≡ g s.1)

  -- so have all rows of two lists
  abbrev pub AllAlike : List (K × V) → List (K × V) → Type 0
  AllAlike xs ys = SameMap cmp (λ d c. d ≡ c) (digests f xs) (digests g ys)

  -- where the first rows and the next are alike, so are one more
  pub alike_more : (xs ys : List (K × V)) (i : ℕ) (x y : K × V) → i < length xs → i < length ys → x ≡ get_or xs i x → y ≡ get_or ys i y → AllAlike (take i xs) (take i ys)
      → IsAlike x y → AllAlike (take (i + 1) xs) (take (i + 1) ys)
  alike_more xs ys i x y p q e h so_far next =
      subst (λ us. AllAlike us (take (i + 1) ys)) (sym (one_more xs i x p e)) (subst (λ vs. AllAlike (take i xs ++ x ∷ []) vs) (sym (one_more ys i y q h))
      (subst (λ us. SameMap cmp (λ d c. d ≡ c) us (digests g (take i ys ++ y ∷ []))) (sym (map-append (λ (r : K × V). (r.0, f r.1)) (take i xs) (x ∷ [])))
      (subst (λ vs. SameMap cmp (λ d c. d ≡ c) (digests f (take i xs) ++ digests f (x ∷ [])) vs) (sym (map-append (λ (r : K × V). (r.0, g r.1)) (take i ys) (y ∷ [])))
      (same-append cmp (digests f (take i xs)) (digests f (x ∷ [])) (digests g (take i ys)) (digests g (y ∷ [])) so_far (next.0, next.1, tt)))))

  pub alike_all : (xs ys : List (K × V)) (i : ℕ) → length xs ≤ i → length ys ≤ i → AllAlike (take i xs) (take i ys) → AllAlike xs ys
  alike_all xs ys i p q all = subst (λ us. AllAlike us ys) (take_all i xs p) (subst (λ vs. AllAlike (take i xs) vs) (take_all i ys q) all)

  -- lists of rows that are alike are of one length
  pub alike_length : (xs ys : List (K × V)) → AllAlike xs ys → length xs ≡ length ys
  alike_length [] [] a = refl
  alike_length [] (y ∷ ys) a = absurd a
  alike_length (x ∷ xs) [] a = absurd a
  alike_length (x ∷ xs) (y ∷ ys) a = ap suc (alike_length xs ys a.2)

  -- and so are the rows at each place
  pub alike_there : (xs ys : List (K × V)) (i : ℕ) (x y : K × V) → i < length xs → x ≡ get_or xs i x → y ≡ get_or ys i y → AllAlike xs ys → IsAlike x y
  alike_there [] ys i x y inside e h a = absurd (omega arith)
  alike_there (u ∷ xs) [] i x y inside e h a = absurd a
  alike_there (u ∷ xs) (v ∷ ys) zero x y inside e h a = subst (λ w. IsAlike w y) (sym e) (subst (λ w. IsAlike u w) (sym h) (a.0, a.1))
  alike_there (u ∷ xs) (v ∷ ys) (suc i) x y inside e h a = alike_there xs ys i x y (omega arith) e h a.2
