-- The rows in a gap are those from the first above its bound on, up to the first that isn't below the other.
use Rattle.std.proofs.Common.{◌≡◌, ℕ, zero, suc, ◌<◌, ◌≤◌, Bool, true, false, not, ◌&&◌, List, [], ◌∷◌, ◌++◌, length, take, drop, get_or, Option, Some, None, refl, ap, ap₂, sym, subst, ◌∙◌, arith}
use Rattle.std.proofs.lemmas.List.{take-append-drop, append-nil}
use Rattle.std.proofs.lemmas.List.Elements.{filter-append}
use Rattle.std.specs.List.{AllByRecursion, AllWithin}
use Rattle.std.specs.List.Sorted.{IsPartitionedBy}
use Rattle.std.specs.Cmp.{IsTotalOrder}
use Rattle.std.specs.declared.cmp.Ordering.{Ordering}
use Rattle.key_order.specs.Order.{Below}
use Rattle.key_order.specs.Map.{IsMap, rows_at}
use Rattle.key_order.proofs.Orders.{low_low}
use Rattle.merkle_tree_theory.specs.Gap.{Gap, is_after, is_before, is_in_gap, pairs_within}

pub not_true : (b : Bool) → not b ≡ true → b ≡ false
not_true true e = absurd (let f = e in cc)
not_true false e = refl

pub not_false : (b : Bool) → not b ≡ false → b ≡ true
not_false true e = refl
not_false false e = absurd (let f = e in cc)

only_false : (b : Bool) → (b ≡ true → ⊥) → b ≡ false
only_false true f = absurd (f refl)
only_false false f = refl

-- P holds of the elements up to a place, and from a place on
pub taken_each : {X : Type 0} (P Q : X → Type 0) → ((x : X) → P x → Q x) → (xs : List X) (n : ℕ) → n ≤ length xs → AllWithin P xs 0 n → AllByRecursion Q (take n xs)
taken_each P Q f [] zero h w = tt
taken_each P Q f (x ∷ xs) zero h w = tt
taken_each P Q f [] (suc n) h w = tt
taken_each P Q f (x ∷ xs) (suc n) h w = (f x (w 0 x (omega arith) (omega arith)), taken_each P Q f xs n (omega arith) (λ j d from to. w (suc j) d (omega arith) (omega arith)))

pub left_each : {X : Type 0} (P Q : X → Type 0) → ((x : X) → P x → Q x) → (xs : List X) (n : ℕ) → AllWithin P xs n (length xs) → AllByRecursion Q (drop n xs)
left_each P Q f [] zero w = tt
left_each P Q f (x ∷ xs) zero w = (f x (w 0 x (omega arith) (omega arith)), left_each P Q f xs zero (λ j d from to. w (suc j) d (omega arith) (omega arith)))
left_each P Q f [] (suc n) w = tt
left_each P Q f (x ∷ xs) (suc n) w = left_each P Q f xs n (λ j d from to. w (suc j) d (omega arith) (omega arith))

at_each : {X : Type 0} (P : X → Type 0) (xs : List X) (j : ℕ) (d : X) → AllByRecursion P xs → j < length xs → P (get_or xs j d)
at_each P [] j d ps low = absurd (omega arith)
at_each P (x ∷ xs) zero d ps low = ps.0
at_each P (x ∷ xs) (suc j) d ps low = at_each P xs j d ps.1 (omega arith)

first_of : {X : Type 0} (P : X → Type 0) (xs : List X) (n : ℕ) → AllByRecursion P xs → AllByRecursion P (take n xs)
first_of P [] zero ps = tt
first_of P [] (suc n) ps = tt
first_of P (x ∷ xs) zero ps = tt
first_of P (x ∷ xs) (suc n) ps = (ps.0, first_of P xs n ps.1)

pub all_pass : {K X : Type 0} (test : K → Bool) (ps : List (K × X)) → AllByRecursion (λ p. test p.0 ≡ true) ps → rows_at test ps ≡ ps
all_pass test [] a = refl
all_pass test (p ∷ ps) a = rw a.0 (ap (λ qs. p ∷ qs) (all_pass test ps a.1))

pub none_pass : {K X : Type 0} (test : K → Bool) (ps : List (K × X)) → AllByRecursion (λ p. test p.0 ≡ false) ps → rows_at test ps ≡ []
none_pass test [] a = refl
none_pass test (p ∷ ps) a = rw a.0 (none_pass test ps a.1)

each : {X : Type 0} (P Q : X → Type 0) → ((x : X) → P x → Q x) → (xs : List X) → AllByRecursion P xs → AllByRecursion Q xs
each P Q f [] ps = tt
each P Q f (x ∷ xs) ps = (f x ps.0, each P Q f xs ps.1)

and_first : (a b : Bool) → a ≡ false → a && b ≡ false
and_first true b e = absurd (let f = e in cc)
and_first false b e = refl

and_second : (a b : Bool) → b ≡ false → a && b ≡ false
and_second true b e = e
and_second false b e = refl

and_both : (a b : Bool) → a ≡ true → b ≡ true → a && b ≡ true
and_both true b e f = f
and_both false b e f = absurd (let g = e in cc)

module _ {K : Type 0} (cmp : K → K → Ordering) (o : IsTotalOrder cmp) where
  -- what is above a key that is above a bound is above the bound
  after_up : (a : Option K) (k j : K) → is_after cmp a k ≡ true → Below cmp k j → is_after cmp a j ≡ true
  after_up None k j e l = refl
  after_up (Some a) k j e l = low_low cmp o a k j e l

  before_down : (b : Option K) (k j : K) → Below cmp k j → is_before cmp b j ≡ true → is_before cmp b k ≡ true
  before_down None k j l e = refl
  before_down (Some b) k j l e = low_low cmp o k j b l e

  module _ {X : Type 0} where
    -- along a map the keys that are not above a bound come first
    pub falls_behind : (a : Option K) (rows : List (K × X)) → IsMap cmp rows → IsPartitionedBy (λ r. not (is_after cmp a r.0)) rows
    falls_behind a [] m i j d le inside h = absurd (omega arith)
    falls_behind a (r ∷ rows) m zero zero d le inside h = h
    falls_behind a (r ∷ rows) m zero (suc j) d le inside h =
        let x = get_or rows j d in
        let later : is_after cmp a x.0 ≡ false = not_true (is_after cmp a x.0) h in
        ap not (only_false (is_after cmp a r.0) (λ e. let up = after_up a r.0 x.0 e (at_each (λ s. Below cmp r.0 s.0) rows j d m.0 (omega arith)) in cc))
    falls_behind a (r ∷ rows) m (suc i) zero d le inside h = absurd (omega arith)
    falls_behind a (r ∷ rows) m (suc i) (suc j) d le inside h = falls_behind a rows m.1 i j d (omega arith) (omega arith) h

    -- and those below a bound
    pub falls_before : (b : Option K) (rows : List (K × X)) → IsMap cmp rows → IsPartitionedBy (λ r. is_before cmp b r.0) rows
    falls_before b [] m i j d le inside h = absurd (omega arith)
    falls_before b (r ∷ rows) m zero zero d le inside h = h
    falls_before b (r ∷ rows) m zero (suc j) d le inside h =
        before_down b r.0 (get_or rows j d).0 (at_each (λ s. Below cmp r.0 s.0) rows j d m.0 (omega arith)) h
    falls_before b (r ∷ rows) m (suc i) zero d le inside h = absurd (omega arith)
    falls_before b (r ∷ rows) m (suc i) (suc j) d le inside h = falls_before b rows m.1 i j d (omega arith) (omega arith) h

    -- the others of a map are one
    pub map_behind : (rows : List (K × X)) (n : ℕ) → IsMap cmp rows → IsMap cmp (drop n rows)
    map_behind [] zero m = tt
    map_behind [] (suc n) m = tt
    map_behind (r ∷ rows) zero m = m
    map_behind (r ∷ rows) (suc n) m = map_behind rows n m.1

    -- the rows above the one bound, up to the other, are those in the gap
    pub between_parts : (g : Gap K) (rows behind : List (K × X)) (n i : ℕ) → behind ≡ drop n rows → AllByRecursion (λ r. is_after cmp g.after r.0 ≡ false) (take n rows)
        → AllByRecursion (λ r. is_after cmp g.after r.0 ≡ true) (drop n rows) → AllByRecursion (λ r. is_before cmp g.before r.0 ≡ true) (take i behind)
        → AllByRecursion (λ r. is_before cmp g.before r.0 ≡ false) (drop i behind) → take i behind ≡ pairs_within cmp g rows
    between_parts g rows behind n i e none after before others =
        sym (ap within (sym (take-append-drop n rows)) ∙ filter-append (λ (r : K × X). is_in_gap cmp r.0 g) (take n rows) (drop n rows)
        ∙ ap₂ (λ s t. s ++ t) (none_pass (λ k. is_in_gap cmp k g) (take n rows)
        (each (λ r. is_after cmp g.after r.0 ≡ false) (λ r. is_in_gap cmp r.0 g ≡ false) (λ r f. and_first (is_after cmp g.after r.0) (is_before cmp g.before r.0) f) (take n rows) none))
        (ap within (sym e) ∙ ap within (sym (take-append-drop i behind)) ∙ filter-append (λ (r : K × X). is_in_gap cmp r.0 g) (take i behind) (drop i behind)
        ∙ ap₂ (λ s t. s ++ t)
        (all_pass (λ k. is_in_gap cmp k g) (take i behind)
        (both (take i behind) (first_of (λ r. is_after cmp g.after r.0 ≡ true) behind i (subst (AllByRecursion (λ r. is_after cmp g.after r.0 ≡ true)) (sym e) after)) before))
        (none_pass (λ k. is_in_gap cmp k g) (drop i behind)
        (each (λ r. is_before cmp g.before r.0 ≡ false) (λ r. is_in_gap cmp r.0 g ≡ false) (λ r f. and_second (is_after cmp g.after r.0) (is_before cmp g.before r.0) f) (drop i behind) others))
        ∙ append-nil (take i behind)))
      where
        within : List (K × X) → List (K × X)
        within = pairs_within cmp g

        both : (rs : List (K × X)) → AllByRecursion (λ r. is_after cmp g.after r.0 ≡ true) rs → AllByRecursion (λ r. is_before cmp g.before r.0 ≡ true) rs
            → AllByRecursion (λ r. is_in_gap cmp r.0 g ≡ true) rs
        both [] ys zs = tt
        both (r ∷ rs) ys zs = (and_both (is_after cmp g.after r.0) (is_before cmp g.before r.0) ys.0 zs.0, both rs ys.1 zs.1)
