-- The exact cut has the laws of a cut.
use Rattle.std.proofs.Common.{◌≡◌, Bool, true, false, List, [], ◌∷◌, ◌++◌, map, refl, ◌⊎◌, inl, inr, if◌then◌else◌}
use Rattle.std.specs.Cmp.{IsTotalOrder}
use Rattle.std.specs.List.{AllByRecursion, flat_map}
use Rattle.std.specs.declared.cmp.Ordering.{Ordering}
use Rattle.key_order.specs.Interval.{Span, IsOrdered, IsIn, IsInside, IsCovered, Meets, meets}
use Rattle.key_order.specs.Order.{Upto, Below, Same, AnyByRecursion, below}
use Rattle.merkle_diff.specs.Merge.{AreThose, IsMerge}
use Rattle.merkle_diff.specs.Cut.{IsCut, IsExactCut, IsBoundOf, piece, cut_one, pieces_left}
use Rattle.key_order.proofs.Orders.{up_up, up_low, low_up, low_is_up, not_both, either}
use Rattle.key_order.proofs.ListParts.{each-append}
use Rattle.merkle_diff.proofs.MergeLaws.{merge-to, merge-from, merge-is_apart, merge-is_ordered}
use Rattle.merkle_diff.proofs.Each.{any-map, each-with, each-both, each-not, any-get, any-left, any-right, any-split, any-unmapped, each-unmapped}
use Rattle.merkle_diff.proofs.Borders.{Border, bound, Free}
use Rattle.merkle_diff.proofs.Borders.Border.{Start, End}
use Rattle.merkle_diff.proofs.OrderTests.{same_trans, meets_by, not_meets, same-self}

module _ {K : Type 0} (cmp : K → K → Ordering) (o : IsTotalOrder cmp) where
  -- what holds of some piece holds of the one there is
  any-piece : (Q : Span K → Type 0) (a b : K) → AnyByRecursion Q (piece cmp a b) → Below cmp a b × Q (record { first = a; last = b })
  any-piece Q a b h = go (below cmp a b) refl h
    where
      go : (t : Bool) → below cmp a b ≡ t → AnyByRecursion Q (if t then (record { first = a; last = b } ∷ []) else []) → Below cmp a b × Q (record { first = a; last = b })
      go true e (inl i) = (e, i)
      go true e (inr i) = absurd i
      go false e i = absurd i

  some-piece : (Q : Span K → Type 0) (a b : K) → Below cmp a b → Q (record { first = a; last = b }) → AnyByRecursion Q (piece cmp a b)
  some-piece Q a b h q = rw h (inl q)

  -- ---- one good range

  -- what is left of s where g is cut out is s itself, a piece before g or one after it
  pub any-cut : (Q : Span K → Type 0) (R : Type 0) (g s : Span K) → (¬ (Meets cmp g s) → Q s → R) → (Meets cmp g s → Below cmp s.first g.first → Q (record { first = s.first; last = g.first }) → R)
      → (Meets cmp g s → Below cmp g.last s.last → Q (record { first = g.last; last = s.last }) → R) → AnyByRecursion Q (cut_one cmp g s) → R
  any-cut Q R g s whole before behind h = go (meets cmp g s) refl h
    where
      cut : Meets cmp g s → AnyByRecursion Q (piece cmp s.first g.first) ⊎ AnyByRecursion Q (piece cmp g.last s.last) → R
      cut m (inl i) = let p = any-piece Q s.first g.first i in before m p.0 p.1
      cut m (inr i) = let p = any-piece Q g.last s.last i in behind m p.0 p.1

      go : (t : Bool) → meets cmp g s ≡ t → AnyByRecursion Q (if t then (piece cmp s.first g.first ++ piece cmp g.last s.last) else (s ∷ [])) → R
      go true e i = cut (meets_by cmp o g s e) (any-split Q (piece cmp s.first g.first) (piece cmp g.last s.last) i)
      go false e (inl i) = whole (not_meets cmp o g s e) i
      go false e (inr i) = absurd i

  pub some-cut : (Q : Span K → Type 0) (g s : Span K) → Q s
      → (Meets cmp g s → (Below cmp s.first g.first × Q (record { first = s.first; last = g.first }))
      ⊎ (Below cmp g.last s.last × Q (record { first = g.last; last = s.last }))) → AnyByRecursion Q (cut_one cmp g s)
  some-cut Q g s q f = go (meets cmp g s) refl
    where
      cut : (Below cmp s.first g.first × Q (record { first = s.first; last = g.first }))
          ⊎ (Below cmp g.last s.last × Q (record { first = g.last; last = s.last })) → AnyByRecursion Q (piece cmp s.first g.first ++ piece cmp g.last s.last)
      cut (inl h) = any-left Q (piece cmp s.first g.first) (piece cmp g.last s.last) (some-piece Q s.first g.first h.0 h.1)
      cut (inr h) = any-right Q (piece cmp s.first g.first) (piece cmp g.last s.last) (some-piece Q g.last s.last h.0 h.1)

      go : (t : Bool) → meets cmp g s ≡ t → AnyByRecursion Q (if t then (piece cmp s.first g.first ++ piece cmp g.last s.last) else (s ∷ []))
      go true e = cut (f (meets_by cmp o g s e))
      go false e = inl q

  cut-kept : (k : K) (g s : Span K) → IsCovered cmp k (cut_one cmp g s) → IsIn cmp k s × ¬ (IsInside cmp k g)
  cut-kept k g s =
      any-cut (IsIn cmp k) (IsIn cmp k s × ¬ (IsInside cmp k g)) g s
      (λ n i. (i, λ c. n (up_up cmp o g.first k s.last (low_is_up cmp o g.first k c.0) i.1, up_up cmp o s.first k g.last i.0 (low_is_up cmp o k g.last c.1))))
      (λ m b i. ((i.0, up_up cmp o k g.first s.last i.1 m.0), λ c. not_both cmp o k g.first i.1 c.0))
      (λ m b i. ((up_up cmp o s.first g.last k m.1 i.0, i.1), λ c. not_both cmp o g.last k i.0 c.1))

  cut-covers : (k : K) (g s : Span K) → IsIn cmp k s → ¬ (IsIn cmp k g) → IsCovered cmp k (cut_one cmp g s)
  cut-covers k g s i n = some-cut (IsIn cmp k) g s i (λ m. go (either cmp o g.first k) (either cmp o k g.last))
    where
      go : Upto cmp g.first k ⊎ Below cmp k g.first → Upto cmp k g.last ⊎ Below cmp g.last k
          → (Below cmp s.first g.first × IsIn cmp k (record { first = s.first; last = g.first })) ⊎ (Below cmp g.last s.last × IsIn cmp k (record { first = g.last; last = s.last }))
      go (inr b) e = inl (up_low cmp o s.first k g.first i.0 b, (i.0, low_is_up cmp o k g.first b))
      go (inl a) (inl b) = absurd (n (a, b))
      go (inl a) (inr b) = inr (low_up cmp o g.last k s.last b i.1, (low_is_up cmp o g.last k b, i.1))

  -- ---- all of them

  -- where Q holds of what is left by one good range, it holds of what that was cut from, and N of the good range
  module _ (Q N : Span K → Type 0) (one : (g s : Span K) → AnyByRecursion Q (cut_one cmp g s) → Q s × N g) where
    flat-down : (g : Span K) (ss : List (Span K)) → AnyByRecursion Q (flat_map (cut_one cmp g) ss) → AnyByRecursion Q ss × N g
    flat-down g [] h = absurd h
    flat-down g (s ∷ ss) h = go (flat-down g ss) (any-split Q (cut_one cmp g s) (flat_map (cut_one cmp g) ss) h)
      where
        go : (AnyByRecursion Q (flat_map (cut_one cmp g) ss) → AnyByRecursion Q ss × N g) → AnyByRecursion Q (cut_one cmp g s)
            ⊎ AnyByRecursion Q (flat_map (cut_one cmp g) ss) → AnyByRecursion Q (s ∷ ss) × N g
        go f (inl i) = let r = one g s i in (inl r.0, r.1)
        go f (inr i) = let r = f i in (inr r.0, r.1)

    pub left-down : (bad good : List (Span K)) → AnyByRecursion Q (pieces_left cmp bad good) → AnyByRecursion Q bad × AllByRecursion N good
    left-down bad [] h = (h, tt)
    left-down bad (g ∷ good) h =
        let r = left-down (flat_map (cut_one cmp g) bad) good h in
        let c = flat-down g bad r.0 in
        (c.0, (c.1, r.1))

  -- and the other way round
  module _ (Q N : Span K → Type 0) (one : (g s : Span K) → Q s → N g → AnyByRecursion Q (cut_one cmp g s)) where
    flat-up : (g : Span K) (ss : List (Span K)) → AnyByRecursion Q ss → N g → AnyByRecursion Q (flat_map (cut_one cmp g) ss)
    flat-up g [] h n = absurd h
    flat-up g (s ∷ ss) (inl h) n = any-left Q (cut_one cmp g s) (flat_map (cut_one cmp g) ss) (one g s h n)
    flat-up g (s ∷ ss) (inr h) n = any-right Q (cut_one cmp g s) (flat_map (cut_one cmp g) ss) (flat-up g ss h n)

    pub left-up : (bad good : List (Span K)) → AnyByRecursion Q bad → AllByRecursion N good → AnyByRecursion Q (pieces_left cmp bad good)
    left-up bad [] h n = h
    left-up bad (g ∷ good) h n = left-up (flat_map (cut_one cmp g) bad) good (flat-up g bad h n.0) n.1

  -- what holds of the pieces of each range holds of all pieces
  pub each-flat : (P : Span K → Type 0) (g : Span K) (bad : List (Span K)) → ((s : Span K) → P s → AllByRecursion P (cut_one cmp g s)) → AllByRecursion P bad
      → AllByRecursion P (flat_map (cut_one cmp g) bad)
  each-flat P g [] f a = tt
  each-flat P g (s ∷ bad) f a = each-append P (cut_one cmp g s) (flat_map (cut_one cmp g) bad) (f s a.0) (each-flat P g bad f a.1)

  pub each-piece : (P : Span K → Type 0) (a b : K) → (Below cmp a b → P (record { first = a; last = b })) → AllByRecursion P (piece cmp a b)
  each-piece P a b f = go (below cmp a b) refl
    where
      go : (t : Bool) → below cmp a b ≡ t → AllByRecursion P (if t then (record { first = a; last = b } ∷ []) else [])
      go true e = (f e, tt)
      go false e = tt

  pub each-cut : (P : Span K → Type 0) (g s : Span K) → P s → (Meets cmp g s → Below cmp s.first g.first → P (record { first = s.first; last = g.first }))
      → (Meets cmp g s → Below cmp g.last s.last → P (record { first = g.last; last = s.last })) → AllByRecursion P (cut_one cmp g s)
  each-cut P g s p f h = go (meets cmp g s) refl
    where
      go : (t : Bool) → meets cmp g s ≡ t → AllByRecursion P (if t then (piece cmp s.first g.first ++ piece cmp g.last s.last) else (s ∷ []))
      go true e = let m = meets_by cmp o g s e in each-append P (piece cmp s.first g.first) (piece cmp g.last s.last) (each-piece P s.first g.first (f m)) (each-piece P g.last s.last (h m))
      go false e = (p, tt)

  pub left-ordered : (bad good : List (Span K)) → AllByRecursion (IsOrdered cmp) bad → AllByRecursion (IsOrdered cmp) (pieces_left cmp bad good)
  left-ordered bad [] d = d
  left-ordered bad (g ∷ good) d = left-ordered (flat_map (cut_one cmp g) bad) good
      (each-flat (IsOrdered cmp) g bad (λ s p. each-cut (IsOrdered cmp) g s p (λ m b. low_is_up cmp o s.first g.first b) (λ m b. low_is_up cmp o g.last s.last b)) d)

  -- both bounds have P
  abbrev pub Bounds : (K → Type 0) → Span K → Type 0
  Bounds P s = P s.first × P s.last

  pub left-bounds : (P : K → Type 0) (bad good : List (Span K)) → AllByRecursion (Bounds P) bad → AllByRecursion (Bounds P) good → AllByRecursion (Bounds P) (pieces_left cmp bad good)
  left-bounds P bad [] d h = d
  left-bounds P bad (g ∷ good) d h = left-bounds P (flat_map (cut_one cmp g) bad) good (each-flat (Bounds P) g bad (λ s p. each-cut (Bounds P) g s p (λ m b. (p.0, h.0.0)) (λ m b. (h.0.1, p.1))) d) h.1

  -- the bounds of a merge are, up to equality, bounds of the list
  pub merge-bounds : (P : K → Type 0) (ss merged : List (Span K)) → ((k j : K) → Same cmp k j → P j → P k) → AllByRecursion (Bounds P) ss → IsMerge cmp ss merged → AllByRecursion (Bounds P) merged
  merge-bounds P ss merged f d m = each-both (λ s. P s.first) (λ s. P s.last) (Bounds P) merged (λ s p q. (p, q)) (those Start (λ s b. b.0) m.starts) (those End (λ s b. b.1) m.ends)
    where
      those : (e : Border) → ((s : Span K) → Bounds P s → P (bound e s)) → AreThose cmp (map (bound e) ss) (Free cmp e ss) (map (bound e) merged) → AllByRecursion (λ s. P (bound e s)) merged
      those e p t =
          each-unmapped (bound e) P merged (each-with (λ k. AnyByRecursion (λ j. Same cmp k j × Free cmp e ss j) (map (bound e) ss)) P (map (bound e) merged)
          (λ k h. any-get (Bounds P) (λ s. Same cmp k (bound e s) × Free cmp e ss (bound e s)) (P k) ss (λ s b q. f k (bound e s) q.0 (p s b)) d
          (any-unmapped (bound e) (λ j. Same cmp k j × Free cmp e ss j) ss h)) t.sound)

  -- where each element has two bounds, each is equal to a bound of one, and what is equal to that is so too
  module _ {X : Type 0} (first last : X → K) where
    abbrev IsOneOf : List X → K → Type 0
    IsOneOf xs k = AnyByRecursion (λ x. Same cmp k (first x) ⊎ Same cmp k (last x)) xs

    pub own-bounds : (xs : List X) → AllByRecursion (λ x. IsOneOf xs (first x) × IsOneOf xs (last x)) xs
    own-bounds [] = tt
    own-bounds (x ∷ xs) = (
      (inl (inl (same-self cmp o (first x))), inl (inr (same-self cmp o (last x)))),
      each-with (λ y. IsOneOf xs (first y) × IsOneOf xs (last y)) (λ y. IsOneOf (x ∷ xs) (first y) × IsOneOf (x ∷ xs) (last y)) xs (λ y b. (inr b.0, inr b.1)) (own-bounds xs),
    )

    pub bound-same : (xs : List X) (k j : K) → Same cmp k j → IsOneOf xs j → IsOneOf xs k
    bound-same xs k j e h = any-map (λ x. Same cmp j (first x) ⊎ Same cmp j (last x)) (λ x. Same cmp k (first x) ⊎ Same cmp k (last x)) xs one h
      where
        one : (x : X) → Same cmp j (first x) ⊎ Same cmp j (last x) → Same cmp k (first x) ⊎ Same cmp k (last x)
        one x (inl h) = inl (same_trans cmp o k j (first x) e h)
        one x (inr h) = inr (same_trans cmp o k j (last x) e h)

  -- the exact cut has the laws of a cut
  pub cut-out : (bad good result : List (Span K)) → AllByRecursion (IsOrdered cmp) bad → IsExactCut cmp bad good result → IsCut cmp bad good result
  cut-out bad good result d m =
      let q = left-ordered bad good d in
      record {
        kept = λ k h. left-down (IsIn cmp k) (λ g. ¬ (IsInside cmp k g)) (cut-kept k) bad good (merge-from cmp o k (pieces_left cmp bad good) result q m h);
        covers = λ k h n. merge-to cmp o k (pieces_left cmp bad good) result q m (left-up (IsIn cmp k) (λ g. ¬ (IsIn cmp k g)) (cut-covers k) bad good h (each-not (IsIn cmp k) good n));
        bounds = merge-bounds (λ k. IsBoundOf cmp bad k ⊎ IsBoundOf cmp good k) (pieces_left cmp bad good) result both-same
            (left-bounds (λ k. IsBoundOf cmp bad k ⊎ IsBoundOf cmp good k) bad good
            (each-with (Bounds (IsBoundOf cmp bad)) (Bounds (λ k. IsBoundOf cmp bad k ⊎ IsBoundOf cmp good k)) bad (λ s b. (inl b.0, inl b.1)) (own-bounds (λ s. s.first) (λ s. s.last) bad))
            (each-with (Bounds (IsBoundOf cmp good)) (Bounds (λ k. IsBoundOf cmp bad k ⊎ IsBoundOf cmp good k)) good (λ s b. (inr b.0, inr b.1)) (own-bounds (λ s. s.first) (λ s. s.last) good))) m;
        apart = merge-is_apart cmp o (pieces_left cmp bad good) result q m;
      }
    where
      both-same : (k j : K) → Same cmp k j → IsBoundOf cmp bad j ⊎ IsBoundOf cmp good j → IsBoundOf cmp bad k ⊎ IsBoundOf cmp good k
      both-same k j e (inl h) = inl (bound-same (λ s. s.first) (λ s. s.last) bad k j e h)
      both-same k j e (inr h) = inr (bound-same (λ s. s.first) (λ s. s.last) good k j e h)

  pub cut-ordered : (bad good result : List (Span K)) → AllByRecursion (IsOrdered cmp) bad → IsExactCut cmp bad good result → AllByRecursion (IsOrdered cmp) result
  cut-ordered bad good result d m = merge-is_ordered cmp o (pieces_left cmp bad good) result (left-ordered bad good d) m
