-- Rows that come in ascending key order.
use Rattle.std.proofs.Common.{◌≡◌, ℕ, ◌+◌, ◌-◌, List, [], ◌∷◌, ◌++◌, ◌<◌, length, take, get_or, suc, Option, Some, refl, ap, sym, subst, ◌∙◌, arith}
use Rattle.std.proofs.lemmas.Bool.{false≢true}
use Rattle.std.proofs.lemmas.List.{length_push, take_more}
use Rattle.std.specs.Prelude.{◌^◌, min, true, false}
use Rattle.std.specs.Iterator.{Yields}
use Rattle.std.specs.List.{AllByRecursion}
use Rattle.std.specs.Cmp.{IsTotalOrder}
use Rattle.std.specs.declared.cmp.Ordering.{Ordering}
use Rattle.key_order.specs.Order.{Below, Same}
use Rattle.key_order.specs.Map.{IsMap, SameMap, last_key}
use Rattle.key_order.proofs.Orders.{low_low}
use Rattle.key_order.proofs.SameMaps.{same-append, same_is_map, ascends}
use Rattle.merkle_tree_theory.specs.Edge.{is_above}
use Rattle.merkle_search_tree.specs.Loading.{row_count, digests, RowFails, LoadFails}
use Rattle.merkle_search_tree.specs.declared.load.LoadRefused.{LoadRefused}
use Rattle.merkle_search_tree.specs.declared.load.LoadRefused.TheVariants.{Memory, NotAscending}

module _ {K X : Type 0} (cmp : K → K → Ordering) where
  -- one more row that is below k
  all-more : (j k : K) (x : X) (rows : List (K × X)) → AllByRecursion (λ s. Below cmp j s.0) rows → Below cmp j k → AllByRecursion (λ s. Below cmp j s.0) (rows ++ (k, x) ∷ [])
  all-more j k x [] a b = (b, tt)
  all-more j k x (r ∷ rs) a b = (a.0, all-more j k x rs a.1 b)

  all-last : (j k : K) (x : X) (rows : List (K × X)) → AllByRecursion (λ s. Below cmp j s.0) (rows ++ (k, x) ∷ []) → Below cmp j k
  all-last j k x [] a = a.0
  all-last j k x (r ∷ rs) a = all-last j k x rs a.1

  -- what the last row is below, the first is
  below-last : (o : IsTotalOrder cmp) (p : K × X) (ps : List (K × X)) (k : K) → IsMap cmp (p ∷ ps) → Below cmp (last_key p.0 ps) k → Below cmp p.0 k
  below-last o p [] k a b = b
  below-last o p (q ∷ qs) k a b = low_low cmp o p.0 q.0 k a.0.0 (below-last o q qs k a.1 b)

  -- a row whose key is above the last one
  pub map-more : (o : IsTotalOrder cmp) (rows : List (K × X)) (k : K) (x : X) → IsMap cmp rows → is_above cmp k rows ≡ true → IsMap cmp (rows ++ (k, x) ∷ [])
  map-more o [] k x a b = (tt, tt)
  map-more o (p ∷ []) k x a b = ((b, tt), (tt, tt))
  map-more o (p ∷ q ∷ qs) k x a b = (all-more p.0 k x (q ∷ qs) a.0 (below-last o p (q ∷ qs) k a b), map-more o (q ∷ qs) k x a.1 b)

  pub map-last : (rows : List (K × X)) (k : K) (x : X) → IsMap cmp (rows ++ (k, x) ∷ []) → is_above cmp k rows ≡ true
  map-last [] k x a = refl
  map-last (p ∷ []) k x a = a.0.0
  map-last (p ∷ q ∷ qs) k x a = map-last (q ∷ qs) k x a.1

  pub no-more : (rows : List (K × X)) (k : K) → is_above cmp k rows ≡ false → (x : X) → ¬ (IsMap cmp (rows ++ (k, x) ∷ []))
  no-more rows k e x a = false≢true (sym e ∙ map-last rows k x a)

-- one row more is counted
pub count-more : {X : Type 0} (rows : List X) (r : X) (n : ℕ) → n ≡ row_count rows → min (n + 1) (2 ^ 64 - 1) ≡ row_count (rows ++ r ∷ [])
count-more rows r n e =
    omega (arith, e, length_push rows r)

-- the digests of rows
module _ {K V D : Type 0} (f : V → D) where
  pub digests-more : (rows : List (K × V)) (k : K) (v : V) → digests f (rows ++ (k, v) ∷ []) ≡ digests f rows ++ (k, f v) ∷ []
  digests-more [] k v = refl
  digests-more (r ∷ rs) k v = ap (λ xs. (r.0, f r.1) ∷ xs) (digests-more rs k v)

  module _ (cmp : K → K → Ordering) where
    all-digests : (k : K) (rows : List (K × V)) → AllByRecursion (λ s. Below cmp k s.0) (digests f rows) → AllByRecursion (λ s. Below cmp k s.0) rows
    all-digests k [] a = tt
    all-digests k (r ∷ rs) a = (a.0, all-digests k rs a.1)

    -- rows ascend where the pairs of their digests do, and the other way round
    pub rows-map : (rows : List (K × V)) → IsMap cmp (digests f rows) → IsMap cmp rows
    rows-map [] a = tt
    rows-map (r ∷ rs) a = (all-digests r.0 rs a.0, rows-map rs a.1)

    digests-all : (k : K) (rows : List (K × V)) → AllByRecursion (λ s. Below cmp k s.0) rows → AllByRecursion (λ s. Below cmp k s.0) (digests f rows)
    digests-all k [] a = tt
    digests-all k (r ∷ rs) a = (a.0, digests-all k rs a.1)

    pub digests-map : (rows : List (K × V)) → IsMap cmp rows → IsMap cmp (digests f rows)
    digests-map [] a = tt
    digests-map (r ∷ rs) a = (digests-all r.0 rs a.0, digests-map rs a.1)

  digests-length : (rows : List (K × V)) → length (digests f rows) ≡ length rows
  digests-length [] = refl
  digests-length (r ∷ rs) = ap suc (digests-length rs)

-- pairs whose keys equal those of rows, and whose digests are those of the rows' values
module _ {K V D : Type 0} (f : V → D) (cmp : K → K → Ordering) (o : IsTotalOrder cmp) where
  abbrev pub Holds : List (K × D) → List (K × V) → Type 0
  Holds ps rows = SameMap cmp (λ d e. d ≡ e) ps (digests f rows)

  same-length : (ps qs : List (K × D)) → SameMap cmp (λ d e. d ≡ e) ps qs → length ps ≡ length qs
  same-length [] [] a = refl
  same-length [] (q ∷ qs) a = absurd a
  same-length (p ∷ ps) [] a = absurd a
  same-length (p ∷ ps) (q ∷ qs) a = ap suc (same-length ps qs a.2)

  -- one more row
  pub holds-more : (ps : List (K × D)) (rows : List (K × V)) (j k : K) (v : V) → Holds ps rows → Same cmp j k → Holds (ps ++ (j, f v) ∷ []) (rows ++ (k, v) ∷ [])
  holds-more ps rows j k v a e = subst (SameMap cmp (λ d x. d ≡ x) (ps ++ (j, f v) ∷ [])) (sym (digests-more f rows k v))
      (same-append cmp ps ((j, f v) ∷ []) (digests f rows) ((k, f v) ∷ []) a (e, refl, tt))

  -- the rows ascend
  pub holds-map : (ps : List (K × D)) (rows : List (K × V)) → Holds ps rows → IsMap cmp ps → IsMap cmp rows
  holds-map ps rows a m = rows-map f cmp rows (same_is_map cmp o (λ d e. d ≡ e) ps (digests f rows) a m)

  -- a row that is refused after the pairs is refused after the rows
  pub holds-fails : (Came : List (K × V) → Type 0) (ps : List (K × D)) (rows : List (K × V)) (j k : K) (v : V) (fault : LoadRefused) → Holds ps rows → Same cmp j k → Came (rows ++ (k, v) ∷ [])
      → RowFails cmp ps j fault → LoadFails cmp Came fault
  holds-fails Came ps rows j k v Memory a e w r = tt
  holds-fails Came ps rows j k v (NotAscending at) a e w r = (
    rows,
    (k, v),
    w,
    (
      holds-map ps rows a r.0.0,
      λ x m. r.0.1 (f x)
          (ascends cmp o (λ d y. d ≡ y) (ps ++ (j, f x) ∷ []) (digests f (rows ++ (k, x) ∷ [])) (holds-more ps rows j k x a e) (digests-map f cmp (rows ++ (k, x) ∷ []) m)),
    ),
    r.1 ∙ ap (λ n. min n (2 ^ 64 - 1)) (same-length ps (digests f rows) a ∙ digests-length f rows),
  )

-- items that came, and one more
pub yields-more : {I X : Type 0} (steps : I → Option X → I → Type 0) (it : I) (xs : List X) (mid : I) (x : X) (rest : I) → Yields steps it xs mid
    → steps mid (Some x) rest → Yields steps it (xs ++ x ∷ []) rest
yields-more steps it [] mid x rest y s = (rest, subst (λ i. steps i (Some x) rest) (sym y) s, refl)
yields-more steps it (z ∷ zs) mid x rest y s = (y.0, y.1, yields-more steps y.0 zs mid x rest y.2 s)

-- one more row of a list
pub item-more : {X : Type 0} (rows : List X) (i : ℕ) (r : X) → i < length rows → r ≡ get_or rows i r → take (i + 1) rows ≡ take i rows ++ r ∷ []
item-more rows i r s e = take_more rows i r s ∙ ap (λ x. take i rows ++ x ∷ []) (sym e)
