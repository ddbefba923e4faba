-- Lists as bytes, whatever their entries: each is read in one way.
use Rattle.std.proofs.Common.{◌≡◌, ℕ, ◌+◌, ◌<◌, ◌≤◌, ◌^◌, List, [], ◌∷◌, ◌++◌, map, length, sym, ap, ◌∙◌, arith}
use Rattle.std.specs.Bool.{⊤}
use Rattle.std.specs.List.{AllByRecursion, flat_map}
use Rattle.std.proofs.lemmas.List.{append_assoc, length-append}
use Rattle.key_order.proofs.ListParts.{join_tells}
use Rattle.c_values.specs.Lists.{number_bytes, marked_list}
use Rattle.c_values.proofs.Strings.{one_number}

pub all_more : {X : Type 0} (P : X → Type 0) (xs : List X) (x : X) → AllByRecursion P xs → P x → AllByRecursion P (xs ++ x ∷ [])
all_more P [] x a p = (p, tt)
all_more P (y ∷ ys) x a p = (a.0, all_more P ys x a.1 p)

pub each_trivial : {X : Type 0} (xs : List X) → AllByRecursion (λ _. ⊤) xs
each_trivial [] = tt
each_trivial (x ∷ xs) = (tt, each_trivial xs)

module _ {X : Type 0} (P : X → Type 0) (bytes : X → List ℕ)
    (ends : (x y : X) (r s : List ℕ) → P x → P y → length (bytes x ++ r) < 2 ^ 64 → bytes x ++ r ≡ bytes y ++ s → r ≡ s) where
  -- what is after some of the entries is the other entries
  pub behind : (xs done : List X) (rest : List ℕ) → AllByRecursion P xs → AllByRecursion P done → length done ≤ length xs → length (flat_map bytes xs) < 2 ^ 64
      → flat_map bytes xs ≡ flat_map bytes done ++ rest → (ys : List X) × AllByRecursion P ys × (length ys + length done ≡ length xs) × (rest ≡ flat_map bytes ys)
  behind xs [] rest ps qs low fits e = (xs, ps, omega arith, sym e)
  behind [] (d ∷ ds) rest ps qs low fits e = absurd (omega arith)
  behind (x ∷ xs) (d ∷ ds) rest ps qs low fits e =
      let next = ends x d (flat_map bytes xs) (flat_map bytes ds ++ rest) ps.0 qs.0 fits (e ∙ append_assoc (bytes d) (flat_map bytes ds) rest) in
      let b = behind xs ds rest ps.1 qs.1 (omega arith) (omega (arith, length-append (bytes x) (flat_map bytes xs))) next in
      (b.0, b.1, omega (arith, b.2), b.3)

  -- after fewer entries than all there is one more
  pub one_left : (xs done : List X) (rest : List ℕ) → AllByRecursion P xs → AllByRecursion P done → length done < length xs → length (flat_map bytes xs) < 2 ^ 64
      → flat_map bytes xs ≡ flat_map bytes done ++ rest → (y : X) × (s : List ℕ) × P y × (rest ≡ bytes y ++ s)
  one_left xs done rest ps qs low fits e = let b = behind xs done rest ps qs (omega arith) fits e in first b.0 b.1 b.2 b.3
    where
      first : (ys : List X) → AllByRecursion P ys → length ys + length done ≡ length xs → rest ≡ flat_map bytes ys → (y : X) × (s : List ℕ) × P y × (rest ≡ bytes y ++ s)
      first [] a n f = absurd (omega (arith, n))
      first (y ∷ ys) a n f = (y, flat_map bytes ys, a.0, f)

  -- and after all of them nothing
  pub none_left : (xs done : List X) (rest : List ℕ) → AllByRecursion P xs → AllByRecursion P done → length done ≡ length xs → length (flat_map bytes xs) < 2 ^ 64
      → flat_map bytes xs ≡ flat_map bytes done ++ rest → rest ≡ []
  none_left xs done rest ps qs all fits e = let b = behind xs done rest ps qs (omega arith) fits e in last b.0 b.2 b.3
    where
      last : (ys : List X) → length ys + length done ≡ length xs → rest ≡ flat_map bytes ys → rest ≡ []
      last [] n f = f
      last (y ∷ ys) n f = absurd (omega (arith, n))

-- how long a list is
pub list_length : (mark : List ℕ) (count : ℕ) (body : List ℕ) → length (mark ++ (number_bytes count ++ body)) ≡ length mark + 8 + length body
list_length mark count body = omega (arith, length-append mark (number_bytes count ++ body), length-append (number_bytes count) body)

module _ {X : Type 0} (bytes : X → List ℕ) (some : (x : X) → 1 ≤ length (bytes x)) where
  -- each is written as some bytes, so there are no more entries than bytes
  pub no_more : (xs : List X) → length xs ≤ length (flat_map bytes xs)
  no_more [] = omega arith
  no_more (x ∷ xs) = omega (arith, some x, no_more xs, length-append (bytes x) (flat_map bytes xs))

  few : (mark all : List ℕ) (xs : List X) → length all < 2 ^ 64 → all ≡ marked_list mark bytes xs → length xs < 2 ^ 64
  few mark all xs short e = omega (arith, no_more xs, ap length e, list_length mark (length xs) (flat_map bytes xs))

  -- the number of entries and the entries of a list are read in one way
  pub same_body : (mark : List ℕ) (n : ℕ) (body all : List ℕ) (xs : List X) → n < 2 ^ 64 → length all < 2 ^ 64
      → all ≡ mark ++ (number_bytes n ++ body) → all ≡ marked_list mark bytes xs → (n ≡ length xs) × (body ≡ flat_map bytes xs)
  same_body mark n body all xs fits short e f =
      let behind = join_tells mark mark (number_bytes n ++ body) (number_bytes (length xs) ++ flat_map bytes xs) (λ i. length mark) (sym e ∙ f) in
      one_number n (length xs) body (flat_map bytes xs) fits (few mark all xs short f) behind.1

  module _ {Y : Type 0} (P : X → Type 0) (seen : X → Y)
      (one : (x y : X) (r s : List ℕ) → P x → P y → length (bytes x ++ r) < 2 ^ 64 → bytes x ++ r ≡ bytes y ++ s → (seen x ≡ seen y) × (r ≡ s)) where
    same_each : (xs ys : List X) → AllByRecursion P xs → AllByRecursion P ys → length xs ≡ length ys → length (flat_map bytes xs) < 2 ^ 64
        → flat_map bytes xs ≡ flat_map bytes ys → map seen xs ≡ map seen ys
    same_each [] [] ps qs n fits e = λ i. []
    same_each [] (y ∷ ys) ps qs n fits e = absurd (omega (arith, n))
    same_each (x ∷ xs) [] ps qs n fits e = absurd (omega (arith, n))
    same_each (x ∷ xs) (y ∷ ys) ps qs n fits e =
        let both = one x y (flat_map bytes xs) (flat_map bytes ys) ps.0 qs.0 fits e in
        let rest = same_each xs ys ps.1 qs.1 (omega (arith, n)) (omega (arith, length-append (bytes x) (flat_map bytes xs))) both.1 in
        λ i. both.0 i ∷ rest i

    -- a list is read in one way where each of its entries is
    pub one_list : (mark all : List ℕ) (xs ys : List X) → length all < 2 ^ 64 → AllByRecursion P xs → AllByRecursion P ys
        → all ≡ marked_list mark bytes xs → all ≡ marked_list mark bytes ys → map seen xs ≡ map seen ys
    one_list mark all xs ys short ps qs e f =
        let both = same_body mark (length xs) (flat_map bytes xs) all ys (few mark all xs short e) short e f in
        same_each xs ys ps qs both.0 (omega (arith, ap length e, list_length mark (length xs) (flat_map bytes xs))) both.1
