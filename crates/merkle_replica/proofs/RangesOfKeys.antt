-- Ranges of keys and rows that ascend, tested one after the other.
use Rattle.std.proofs.Common.{◌≡◌, ℕ, zero, suc, Bool, true, ◌+◌, ◌-◌, ◌<◌, ◌≤◌, List, [], ◌∷◌, length, get_or, drop, refl, sym, ◌∙◌, ap, subst, ◌⊎◌, inl, inr, arith}
use Rattle.std.proofs.Math.Nat.{eq-or-lt_of_le, eq-zero-or-pos}
use Rattle.std.proofs.lemmas.List.{get_or_default}
use Rattle.std.specs.List.{AllByRecursion}
use Rattle.std.specs.Cmp.{IsTotalOrder}
use Rattle.std.specs.declared.cmp.Ordering.{Ordering}
use Rattle.key_order.specs.Order.{Below, Upto, below}
use Rattle.key_order.specs.Map.{IsMap}
use Rattle.key_order.proofs.Orders.{low_up, low_low}
use Rattle.merkle_diff.proofs.Each.{each-with}
use Rattle.merkle_replica.specs.Answers.{spans_of}
use Rattle.merkle_replica.specs.Steps.{AreRanges}

pub spans_drop : {K : Type 0} (rs : List (K × K)) (i : ℕ) → spans_of (drop i rs) ≡ drop i (spans_of rs)
spans_drop rs zero = refl
spans_drop [] (suc i) = refl
spans_drop (r ∷ rs) (suc i) = spans_drop rs i

-- the same of what holds of each place and the next
pub next_further : (P : ℕ → Type 0) (i : ℕ) → ((j : ℕ) → suc j < i → P j) → ((j : ℕ) → suc j ≡ i → P j) → (j : ℕ) → suc j < i + 1 → P j
next_further P i f p j h = go (eq-or-lt_of_le le)
  where
    le : suc j ≤ i
    le = omega arith

    go : (suc j ≡ i) ⊎ (suc j < i) → P j
    go (inl e) = p j e
    go (inr l) = f j l

-- what holds of the elements before a place and at it, whatever stands in for what is missing
pub beside : {X : Type 0} (R : X → X → Type 0) (xs : List X) (i j : ℕ) (x y d : X) → suc j ≡ i → i < length xs → R (get_or xs (i - 1) x) (get_or xs i y) → R (get_or xs j d) (get_or xs (suc j) d)
beside R xs i j x y d e h r =
    let l : i - 1 ≡ j = omega (arith, e) in
    let a : get_or xs (i - 1) x ≡ get_or xs j d = ap (λ n. get_or xs n x) l ∙ get_or_default xs j x d (omega (arith, e, h)) in
    let b : get_or xs i y ≡ get_or xs (suc j) d = ap (λ n. get_or xs n y) (sym e) ∙ get_or_default xs (suc j) y d (omega (arith, e, h)) in
    subst (λ p. R p (get_or xs (suc j) d)) a (subst (R (get_or xs (i - 1) x)) b r)

module _ {K : Type 0} (cmp : K → K → Ordering) (o : IsTotalOrder cmp) where
  -- each range has its bounds in order, and ends below the next
  pub are_from : (rs : List (K × K)) → ((j : ℕ) (d : K × K) → j < length rs → Upto cmp (get_or rs j d).0 (get_or rs j d).1)
      → ((j : ℕ) (d : K × K) → suc j < length rs → Below cmp (get_or rs j d).1 (get_or rs (suc j) d).0) → AreRanges cmp (spans_of rs)
  are_from [] up low = (tt, tt)
  are_from (r ∷ rs) up low =
      let rest = are_from rs (λ j d h. up (suc j) d (omega arith)) (λ j d h. low (suc j) d (omega arith)) in
      ((first rs rest (λ d h. low 0 d (omega arith)), rest.0), (up 0 r (omega arith), rest.1))
    where
      first : (qs : List (K × K)) → AreRanges cmp (spans_of qs) → ((d : K × K) → 0 < length qs → Below cmp r.1 (get_or qs 0 d).0) → AllByRecursion (λ t. Below cmp r.1 t.first) (spans_of qs)
      first [] a h = tt
      first (q ∷ qs) a h = (
        h q (omega arith),
        each-with (λ t. Below cmp q.1 t.first) (λ t. Below cmp r.1 t.first) (spans_of qs)
            (λ t b. low_low cmp o r.1 q.1 t.first (low_up cmp o r.1 q.0 q.1 (h q (omega arith)) a.1.0) b) a.0.0,
      )

  pub are_at : (rs : List (K × K)) (j : ℕ) (d : K × K) → AreRanges cmp (spans_of rs) → j < length rs → Upto cmp (get_or rs j d).0 (get_or rs j d).1
  are_at [] j d a h = absurd (omega arith)
  are_at (r ∷ rs) zero d a h = a.1.0
  are_at (r ∷ rs) (suc j) d a h = are_at rs j d (a.0.1, a.1.1) (omega arith)

  pub are_next : (rs : List (K × K)) (j : ℕ) (d : K × K) → AreRanges cmp (spans_of rs) → suc j < length rs → Below cmp (get_or rs j d).1 (get_or rs (suc j) d).0
  are_next [] j d a h = absurd (omega arith)
  are_next (r ∷ []) j d a h = absurd (omega arith)
  are_next (r ∷ q ∷ rs) zero d a h = a.0.0.0
  are_next (r ∷ q ∷ rs) (suc j) d a h = are_next (q ∷ rs) j d (a.0.1, a.1.1) (omega arith)

  -- a test of whether a range begins after the one before it passes on ranges
  pub begins_behind_passes : (rs : List (K × K)) (i : ℕ) (r : Bool) (d : K × K)
      → ((j : ℕ) (e : K × K) → suc j ≡ i → below cmp (get_or rs j e).1 (get_or rs i e).0 ≡ r) → (i ≡ 0 → r ≡ true) → i < length rs → AreRanges cmp (spans_of rs) → r ≡ true
  begins_behind_passes rs i r d f z h a = go (eq-zero-or-pos i)
    where
      go : (i ≡ 0) ⊎ (0 < i) → r ≡ true
      go (inl e) = z e
      go (inr p) =
          let s : suc (i - 1) ≡ i = omega (arith, p) in
          let l : suc (i - 1) < length rs = omega (arith, p, h) in
          sym (f (i - 1) d s) ∙ subst (λ n. below cmp (get_or rs (i - 1) d).1 (get_or rs n d).0 ≡ true) s (are_next rs (i - 1) d a l)

  module _ {X : Type 0} where
    -- rows each of which is below the next ascend
    pub map_from : (rs : List (K × X)) → ((j : ℕ) (d : K × X) → suc j < length rs → Below cmp (get_or rs j d).0 (get_or rs (suc j) d).0) → IsMap cmp rs
    map_from [] h = tt
    map_from (r ∷ []) h = (tt, tt)
    map_from (r ∷ q ∷ rs) h =
        let rest = map_from (q ∷ rs) (λ j d i. h (suc j) d (omega arith)) in
        let here : Below cmp r.0 q.0 = h 0 r (omega arith) in
        ((here, each-with (λ s. Below cmp q.0 s.0) (λ s. Below cmp r.0 s.0) rs (λ s b. low_low cmp o r.0 q.0 s.0 here b) rest.0), rest)
