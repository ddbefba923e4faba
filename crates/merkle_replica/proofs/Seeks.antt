-- One walk over ascending ranges and ascending rows finds the rows within the ranges.
use Rattle.std.proofs.Common.{◌≡◌, ℕ, zero, suc, ◌+◌, ◌<◌, ◌≤◌, Bool, true, false, ◌&&◌, ◌||◌, cond, List, [], ◌∷◌, ◌++◌, length, get_or, take, drop, add-one, refl, sym, ◌∙◌, ap, arith}
use Rattle.std.specs.List.{AllByRecursion, AllWithin}
use Rattle.std.specs.List.Sorted.{IsPartitionedBy}
use Rattle.std.specs.Cmp.{IsTotalOrder}
use Rattle.std.specs.declared.cmp.Ordering.{Ordering}
use Rattle.key_order.specs.Order.{Upto, Below, upto, below}
use Rattle.key_order.specs.Interval.{Span, IsApart, IsOrdered, is_in, is_covered}
use Rattle.key_order.specs.Map.{IsMap, rows_at, rows_in}
use Rattle.key_order.proofs.Orders.{turned', up_low, low_up, low_low, low_is_up, up_self}
use Rattle.merkle_diff.proofs.Each.{each-with}
use Rattle.merkle_diff.proofs.OrderTests.{by_upto, to_upto, not_upto}
use Rattle.merkle_replica.specs.Answers.{spans_of}
use Rattle.merkle_replica.specs.Seek.{ranges_from, begins_upto}

-- P holds of the elements up to a place
pub all_taken : {X : Type 0} (p : X → Bool) (xs : List X) (n : ℕ) → n ≤ length xs → AllWithin (λ x. p x ≡ true) xs 0 n → AllByRecursion (λ x. p x ≡ true) (take n xs)
all_taken p [] zero h w = tt
all_taken p (x ∷ xs) zero h w = tt
all_taken p [] (suc n) h w = tt
all_taken p (x ∷ xs) (suc n) h w = (w 0 x (omega arith) (omega arith), all_taken p xs n (omega arith) (λ j d from to. w (suc j) d (omega arith) (omega arith)))

or_false : (a : Bool) → a || false ≡ a
or_false true = refl
or_false false = refl

and_false : (a b : Bool) → b ≡ false → a && b ≡ false
and_false true b h = h
and_false false b h = refl

and_true : (a b : Bool) → b ≡ true → a && b ≡ a
and_true true b h = h
and_true false b h = refl

or_when : (a b : Bool) → a ≡ false → a || b ≡ b
or_when true b h = cc
or_when false b h = refl

or_else : (a b : Bool) → b ≡ false → a || b ≡ a
or_else true b h = refl
or_else false b h = h

module _ {K : Type 0} (cmp : K → K → Ordering) (o : IsTotalOrder cmp) where
  not_below : (a b : K) → below cmp a b ≡ false → Upto cmp b a
  not_below a b h = turned' cmp o a b ∙ h

  -- a span that ends below a key holds no key above that
  ends_below : (s : Span K) (k j : K) → Below cmp s.last k → Upto cmp k j → is_in cmp j s ≡ false
  ends_below s k j h u = and_false (upto cmp s.first j) (upto cmp j s.last) (not_upto cmp o j s.last (low_up cmp o s.last k j h u))

  -- ranges that end below a key cover no key above it
  pub covered_from : (ss : List (Span K)) (k j : K) → Upto cmp k j → is_covered cmp j ss ≡ is_covered cmp j (ranges_from cmp k ss)
  covered_from [] k j u = refl
  covered_from (s ∷ ss) k j u = go (below cmp s.last k) refl (covered_from ss k j u)
    where
      go : (b : Bool) → below cmp s.last k ≡ b → is_covered cmp j ss ≡ is_covered cmp j (ranges_from cmp k ss) → is_covered cmp j (s ∷ ss) ≡ is_covered cmp j (cond b (ranges_from cmp k ss) (s ∷ ss))
      go true h rest = or_when (is_in cmp j s) (is_covered cmp j ss) (ends_below s k j h u) ∙ rest
      go false h rest = refl

  pub apart_from : (ss : List (Span K)) (k : K) → IsApart cmp ss → IsApart cmp (ranges_from cmp k ss)
  apart_from [] k a = tt
  apart_from (s ∷ ss) k a = go (below cmp s.last k) (apart_from ss k a.1)
    where
      go : (b : Bool) → IsApart cmp (ranges_from cmp k ss) → IsApart cmp (cond b (ranges_from cmp k ss) (s ∷ ss))
      go true h = h
      go false h = a

  none_before : (ss : List (Span K)) (s : Span K) (k : K) → AllByRecursion (λ t. Below cmp s.last t.first) ss → Upto cmp k s.last → is_covered cmp k ss ≡ false
  none_before [] s k a u = refl
  none_before (t ∷ ss) s k a u =
      or_when (is_in cmp k t) (is_covered cmp k ss) (ap (λ b. b && upto cmp k t.last) (not_upto cmp o t.first k (up_low cmp o k s.last t.first u a.0))) ∙ none_before ss s k a.1 u

  -- a key is in one of the ranges that don't end below it, where the first of them begins at it or below it
  pub covered_first : (ss : List (Span K)) (k : K) → IsApart cmp ss → is_covered cmp k (ranges_from cmp k ss) ≡ begins_upto cmp k (ranges_from cmp k ss)
  covered_first [] k a = refl
  covered_first (s ∷ ss) k a = go (below cmp s.last k) refl (covered_first ss k a.1)
    where
      go : (b : Bool) → below cmp s.last k ≡ b → is_covered cmp k (ranges_from cmp k ss) ≡ begins_upto cmp k (ranges_from cmp k ss)
          → is_covered cmp k (cond b (ranges_from cmp k ss) (s ∷ ss)) ≡ begins_upto cmp k (cond b (ranges_from cmp k ss) (s ∷ ss))
      go true h rest = rest
      go false h rest =
          or_else (is_in cmp k s) (is_covered cmp k ss) (none_before ss s k a.0 (not_below s.last k h))
          ∙ and_true (upto cmp s.first k) (upto cmp k s.last) (to_upto cmp o k s.last (not_below s.last k h))

  module _ {V : Type 0} where
    -- above a key, ranges that end below it take no row
    rows_from : (ss : List (Span K)) (k : K) (rows : List (K × V)) → AllByRecursion (λ s. Upto cmp k s.0) rows → rows_in cmp ss rows ≡ rows_in cmp (ranges_from cmp k ss) rows
    rows_from ss k [] a = refl
    rows_from ss k (r ∷ rows) a = rw (covered_from ss k r.0 a.0, rows_from ss k rows a.1) refl

    -- one row more
    pub swept : (ss tt' : List (Span K)) (r : K × V) (rows : List (K × V)) → IsApart cmp ss → IsMap cmp (r ∷ rows) → tt' ≡ ranges_from cmp r.0 ss
        → rows_in cmp ss (r ∷ rows) ≡ cond (begins_upto cmp r.0 tt') (r ∷ rows_in cmp tt' rows) (rows_in cmp tt' rows)
    swept ss tt' r rows a m e = rw e
        (rows_from ss r.0 (r ∷ rows)
        (up_self cmp o r.0, each-with (λ s. Below cmp r.0 s.0) (λ s. Upto cmp r.0 s.0) rows (λ s b. low_is_up cmp o r.0 s.0 b) m.0) ∙ rw (covered_first ss r.0 a) refl)

    -- the rows from a place on
    pub from_place : (rows : List (K × V)) (i : ℕ) (d : K × V) → i < length rows → drop i rows ≡ get_or rows i d ∷ drop (suc i) rows
    from_place [] i d h = absurd (omega arith)
    from_place (r ∷ rows) zero d h = refl
    from_place (r ∷ rows) (suc i) d h = from_place rows i d (omega arith)

    pub map_drop : (rows : List (K × V)) (i : ℕ) → IsMap cmp rows → IsMap cmp (drop i rows)
    map_drop rows zero m = m
    map_drop [] (suc i) m = tt
    map_drop (r ∷ rows) (suc i) m = map_drop rows i m.1

    all_at : (test : K → Bool) (rows : List (K × V)) (k : K) → AllByRecursion (λ s. Below cmp k s.0) rows → AllByRecursion (λ s. Below cmp k s.0) (rows_at test rows)
    all_at test [] k a = tt
    all_at test (r ∷ rows) k a = go (test r.0) (all_at test rows k a.1)
      where
        go : (b : Bool) → AllByRecursion (λ s. Below cmp k s.0) (rows_at test rows) → AllByRecursion (λ s. Below cmp k s.0) (cond b (r ∷ rows_at test rows) (rows_at test rows))
        go true h = (a.0, h)
        go false h = h

    -- some rows of a map are a map
    pub map_at : (test : K → Bool) (rows : List (K × V)) → IsMap cmp rows → IsMap cmp (rows_at test rows)
    map_at test [] m = tt
    map_at test (r ∷ rows) m = go (test r.0) (map_at test rows m.1)
      where
        go : (b : Bool) → IsMap cmp (rows_at test rows) → IsMap cmp (cond b (r ∷ rows_at test rows) (rows_at test rows))
        go true h = (all_at test rows r.0 m.0, h)
        go false h = h

    here_below : (rows more : List (K × V)) (k : K) (r : K × V) → AllByRecursion (λ s. Below cmp k s.0) (rows ++ r ∷ more) → Below cmp k r.0
    here_below [] more k r a = a.0
    here_below (q ∷ rows) more k r a = here_below rows more k r a.1

    -- what stands before a row of a map is below it
    pub before_row : (front more : List (K × V)) (r : K × V) → IsMap cmp (front ++ r ∷ more) → AllByRecursion (λ s. Below cmp s.0 r.0) front
    before_row [] more r m = tt
    before_row (q ∷ front) more r m = (here_below front more q.0 r m.0, before_row front more r m.1)

  -- where a row is in the ranges, there is a range
  pub some_range : {V : Type 0} (rs : List (K × K)) (rows : List (K × V)) → 0 < length (rows_in cmp (spans_of rs) rows) → 0 < length rs
  some_range (r ∷ rs) rows h = omega arith
  some_range [] [] h = h
  some_range [] (r ∷ rows) h = some_range [] rows h

  -- ---- a place found by halving

  module _ {V : Type 0} where
    at_each : (rows : List (K × V)) (j : ℕ) (d : K × V) (k : K) → AllByRecursion (λ s. Below cmp k s.0) rows → j < length rows → Below cmp k (get_or rows j d).0
    at_each [] j d k all inside = absurd (omega arith)
    at_each (r ∷ rows) zero d k all inside = all.0
    at_each (r ∷ rows) (suc j) d k all inside = at_each rows j d k all.1 (omega arith)

    -- of two rows of a map the one before is lower
    pub rows_rise : (rows : List (K × V)) (i j : ℕ) (x y : K × V) → IsMap cmp rows → i < j → j < length rows → Below cmp (get_or rows i x).0 (get_or rows j y).0
    rows_rise [] i j x y m s t = absurd (omega arith)
    rows_rise (r ∷ rs) i zero x y m s t = absurd (omega arith)
    rows_rise (r ∷ rs) zero (suc j) x y m s t = at_each rs j y r.0 m.0 (omega arith)
    rows_rise (r ∷ rs) (suc i) (suc j) x y m s t = rows_rise rs i j x y m.1 (omega arith) (omega arith)

    -- along a map the rows below a key come first
    pub falls_along : (rows : List (K × V)) (k : K) → IsMap cmp rows → IsPartitionedBy (λ r. below cmp r.0 k) rows
    falls_along [] k m i j d le inside h = absurd (omega arith)
    falls_along (r ∷ rows) k m zero zero d le inside h = h
    falls_along (r ∷ rows) k m zero (suc j) d le inside h = low_low cmp o r.0 (get_or rows j d).0 k (at_each rows j d r.0 m.0 (omega arith)) h
    falls_along (r ∷ rows) k m (suc i) zero d le inside h = absurd (omega arith)
    falls_along (r ∷ rows) k m (suc i) (suc j) d le inside h = falls_along rows k m.1 i j d (omega arith) (omega arith) h

    pub all_left : (k : K) (rows : List (K × V)) (n : ℕ) → AllWithin (λ r. below cmp r.0 k ≡ false) rows n (length rows) → AllByRecursion (λ r. Upto cmp k r.0) (drop n rows)
    all_left k [] zero w = tt
    all_left k (r ∷ rows) zero w = (not_below r.0 k (w 0 r (omega arith) (omega arith)), all_left k rows zero (λ j d from to. w (suc j) d (omega arith) (omega arith)))
    all_left k [] (suc n) w = tt
    all_left k (r ∷ rows) (suc n) w = all_left k rows n (λ j d from to. w (suc j) d (omega arith) (omega arith))

  -- ---- the ranges from a place on

  -- the first of the ranges, where there is one, begins at the key or below it
  pub first_upto : (ss : List (Span K)) (n : ℕ) (k : K) → IsApart cmp ss → AllByRecursion (IsOrdered cmp) ss → begins_upto cmp k (drop n ss) ≡ true → begins_upto cmp k ss ≡ true
  first_upto ss zero k a d h = h
  first_upto [] (suc n) k a d h = h
  first_upto (s ∷ ss) (suc n) k a d h = to_upto cmp o s.first k (low_is_up cmp o s.first k (up_low cmp o s.first s.last k d.0 (behind ss n a.0 h)))
    where
      behind : (ts : List (Span K)) (m : ℕ) → AllByRecursion (λ t. Below cmp s.last t.first) ts → begins_upto cmp k (drop m ts) ≡ true → Below cmp s.last k
      behind [] zero b e = absurd (cc)
      behind [] (suc m) b e = absurd (cc)
      behind (t ∷ ts) zero b e = low_up cmp o s.last t.first k b.0 (by_upto cmp o t.first k e)
      behind (t ∷ ts) (suc m) b e = behind ts m b.1 e

  module _ {V : Type 0} where
    -- rows below the first bound are below each key that the first range begins at or below
    pub first_low : (rs : List (K × K)) (d : K × K) (k : K) (rows : List (K × V)) → begins_upto cmp k (spans_of rs) ≡ true
        → AllByRecursion (λ s. Below cmp s.0 (get_or rs 0 d).0) rows → AllByRecursion (λ s. Below cmp s.0 k) rows
    first_low [] d k rows h all = absurd (cc)
    first_low (q ∷ rs) d k rows h all = each-with (λ s. Below cmp s.0 q.0) (λ s. Below cmp s.0 k) rows (λ s b. low_up cmp o s.0 q.0 k b (by_upto cmp o q.0 k h)) all

  spans_at : (rs : List (K × K)) (i : ℕ) (r d : K × K) → i < length rs → r ≡ get_or rs i d → drop i (spans_of rs) ≡ record { first = r.0; last = r.1 } ∷ drop (suc i) (spans_of rs)
  spans_at [] i r d h e = absurd (omega arith)
  spans_at (q ∷ rs) zero r d h e = ap (λ (x : K × K). record { first = x.0; last = x.1 } ∷ spans_of rs) (sym e)
  spans_at (q ∷ rs) (suc i) r d h e = spans_at rs i r d (omega arith) e

  -- a range that ends below the key is passed
  pub seek_past : (rs : List (K × K)) (i : ℕ) (d : K × K) (k : K) → i < length rs → below cmp (get_or rs i d).1 k ≡ true
      → ranges_from cmp k (drop i (spans_of rs)) ≡ ranges_from cmp k (drop (i + 1) (spans_of rs))
  seek_past rs i d k h b = ap (ranges_from cmp k) (spans_at rs i (get_or rs i d) d h refl) ∙ (rw b refl) ∙ ap (λ n. ranges_from cmp k (drop n (spans_of rs))) (sym (add-one i))

  -- the first that doesn't is where the search ends
  pub seek_here : (rs : List (K × K)) (i : ℕ) (d : K × K) (k : K) → i < length rs → below cmp (get_or rs i d).1 k ≡ false
      → (drop i (spans_of rs) ≡ ranges_from cmp k (drop i (spans_of rs))) × (upto cmp (get_or rs i d).0 k ≡ begins_upto cmp k (drop i (spans_of rs)))
  seek_here rs i d k h b =
      let at = spans_at rs i (get_or rs i d) d h refl in
      (rw at (rw b refl), rw at refl)

  pub seek_end : (rs : List (K × K)) (k : K) → drop (length rs) (spans_of rs) ≡ []
  seek_end [] k = refl
  seek_end (r ∷ rs) k = seek_end rs k
