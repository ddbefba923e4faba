-- How often a key is among keys and in gaps: once at most in a gap that keys part.
use Rattle.std.proofs.Common.{◌≡◌, ℕ, ◌+◌, ◌≤◌, Bool, true, false, cond, ◌&&◌, List, [], ◌∷◌, ◌++◌, map, Option, Some, None, refl, sym, ap, ap₂, subst, ◌∙◌, ◌⊎◌, inl, inr, arith}
use Rattle.std.specs.List.{filter, sum_by}
use Rattle.std.specs.List.Sorted.{IsPermutation}
use Rattle.std.proofs.lemmas.List.Sorted.{sum_by-IsPermutation}
use Rattle.std.proofs.lemmas.List.Sums.{sum_by-cons}
use Rattle.std.specs.Cmp.{IsTotalOrder, tied_back, alike_right}
use Rattle.std.specs.Ordering.{is_lt, is_eq, is_gt}
use Rattle.std.specs.declared.cmp.Ordering.{Ordering}
use Rattle.std.specs.declared.cmp.Ordering.TheVariants.{Less, Equal, Greater}
use Rattle.key_order.specs.Map.{last_key}
use Rattle.key_order.specs.Order.{Same, below}
use Rattle.key_order.proofs.SameKeys.{SameKeys}
use Rattle.key_order.proofs.Bools.{which}
use Rattle.key_order.proofs.Orders.{turned}
use Rattle.merkle_replica.specs.Contents.{Side}
use Rattle.merkle_replica.specs.Laws.{Laws}
use Rattle.merkle_tree_theory.specs.Gap.{Gap, IsInGap, SameGap, is_after, is_before, part_before, part_behind}
use Rattle.merkle_tree_theory.proofs.InGaps.{after_low, before_low, in_gap-same, is_after-alike, is_before-alike, test_from_after, test_from_before}
use Rattle.merkle_wire.specs.Coming.{AscendIn}
use Rattle.merkle_wire.specs.Taking.{AreNewGaps, IsNewGap}
use Rattle.merkle_wire.proofs.TakenGaps.{IsGapOrNone, gap_or_none}
use Rattle.merkle_wire.proofs.Steady.{times_at, times_in, total}

module _ {X : Type 0} (times : X → ℕ) where
  pub total-append : (xs ys : List X) → total times (xs ++ ys) ≡ total times xs + total times ys
  total-append [] ys = omega arith
  total-append (x ∷ xs) ys = omega (arith, total-append xs ys)

  pub total-filter : (test : X → Bool) (xs : List X) → total times (filter test xs) ≤ total times xs
  total-filter test [] = omega arith
  total-filter test (x ∷ xs) = go (which (test x)) (total-filter test xs)
    where
      go : (test x ≡ false) ⊎ (test x ≡ true) → total times (filter test xs) ≤ total times xs → total times (filter test (x ∷ xs)) ≤ total times (x ∷ xs)
      go (inl n) less = rw n (omega (arith, less))
      go (inr n) less = rw n (omega (arith, less))

  pub total-mapped : {Y : Type 0} (value : Y → X) (ys : List Y) → total times (map value ys) ≡ total (λ y. times (value y)) ys
  total-mapped value [] = refl
  total-mapped value (y ∷ ys) = omega (arith, total-mapped value ys)

  pub total-less : (more : X → ℕ) → ((x : X) → times x ≤ more x) → (xs : List X) → total times xs ≤ total more xs
  total-less more less [] = omega arith
  total-less more less (x ∷ xs) = omega (arith, less x, total-less more less xs)

  pub total-plus : (others : X → ℕ) (xs : List X) → total (λ x. times x + others x) xs ≡ total times xs + total others xs
  total-plus others [] = omega arith
  total-plus others (x ∷ xs) = omega (arith, total-plus others xs)

  total_is : (xs : List X) → sum_by times xs ≡ total times xs
  total_is [] = refl
  total_is (x ∷ xs) = sum_by-cons times x xs ∙ omega (arith, total_is xs)

  pub total-permuted : (xs ys : List X) → IsPermutation xs ys → total times xs ≡ total times ys
  total-permuted xs ys all = sym (total_is xs) ∙ sym (sum_by-IsPermutation times xs ys all) ∙ total_is ys

-- nothing sums up to nothing
total-none : {X : Type 0} (xs : List X) → total (λ x. 0) xs ≡ 0
total-none [] = refl
total-none (x ∷ xs) = omega (arith, total-none xs)

-- sums over two lists can be taken in either order
pub total-swap : {X Y : Type 0} (times : X → Y → ℕ) (xs : List X) (ys : List Y) → total (λ x. total (times x) ys) xs ≡ total (λ y. total (λ x. times x y) xs) ys
total-swap times [] ys = sym (total-none ys)
total-swap times (x ∷ xs) ys = omega (arith, total-swap times xs ys, total-plus (times x) (λ y. total (λ z. times z y) xs) ys)

module _ {K : Type 0} (cmp : K → K → Ordering) (o : IsTotalOrder cmp) (k : K) where
  -- in gaps with equal bounds a key is as often
  pub in-alike : (g h : Gap K) → SameGap cmp g h → times_in cmp k g ≡ times_in cmp k h
  in-alike g h s = ap (λ b. cond b 1 0) (ap₂ (λ x y. x && y) (is_after-alike cmp o g.after h.after s.0 k) (is_before-alike cmp o g.before h.before s.1 k))

  -- equal keys it is as often
  pub at-same : (i j : K) → Same cmp i j → times_at cmp k i ≡ times_at cmp k j
  at-same i j s = ap (λ r. cond (is_eq r) 1 0) (alike_right o i j k s)

  pub total-same : (is js : List K) → SameKeys cmp is js → total (times_at cmp k) is ≡ total (times_at cmp k) js
  total-same [] [] s = refl
  total-same [] (j ∷ js) s = absurd s
  total-same (i ∷ is) [] s = absurd s
  total-same (i ∷ is) (j ∷ js) s = omega (arith, at-same i j s.0, total-same is js s.1)

  -- before a key that parts a gap, at it and after it the key is as often as in the gap, at most
  parted : (a low at up b : Bool)
      → ((low ≡ true) × (at ≡ false) × (up ≡ false) × (b ≡ true)) ⊎ (((low ≡ false) × (at ≡ true) × (up ≡ false) × (a ≡ true) × (b ≡ true)) ⊎ ((low ≡ false) × (at ≡ false) × (up ≡ true) × (a ≡ true)))
      → cond (a && low) 1 0 + (cond at 1 0 + cond (up && b) 1 0) ≤ cond (a && b) 1 0
  parted a low at up b (inl (el, ee, eu, eb)) = rw (el, ee, eu, eb) (one a)
    where
      one : (c : Bool) → cond (c && true) 1 0 + (0 + 0) ≤ cond (c && true) 1 0
      one true = omega arith
      one false = omega arith
  parted a low at up b (inr (inl (el, ee, eu, ea, eb))) = rw (el, ee, eu, ea, eb) (omega arith)
  parted a low at up b (inr (inr (el, ee, eu, ea))) = rw (el, ee, eu, ea) (omega arith)

  -- where the key is by one that parts a gap: before it, at it or after it, and so within one bound or both
  abbrev Where : Gap K → K → Type 0
  Where g j =
      ((below cmp k j ≡ true) × (is_eq (cmp k j) ≡ false) × (below cmp j k ≡ false) × (is_before cmp g.before k ≡ true))
      ⊎ (((below cmp k j ≡ false) × (is_eq (cmp k j) ≡ true) × (below cmp j k ≡ false) × (is_after cmp g.after k ≡ true) × (is_before cmp g.before k ≡ true))
      ⊎ ((below cmp k j ≡ false) × (is_eq (cmp k j) ≡ false) × (below cmp j k ≡ true) × (is_after cmp g.after k ≡ true)))

  pub part_times : (g : Gap K) (j : K) → IsInGap cmp j g → times_in cmp k (part_before g j) + (times_at cmp k j + times_in cmp k (part_behind g j)) ≤ times_in cmp k g
  part_times g j inside =
      parted (is_after cmp g.after k) (below cmp k j) (is_eq (cmp k j)) (below cmp j k) (is_before cmp g.before k) (go (cmp k j) refl)
    where
      go : (r : Ordering) → cmp k j ≡ r → Where g j
      go Less e = inl (ap is_lt e, ap is_eq e, turned cmp o k j ∙ ap is_gt e, test_from_before cmp g.before k (before_low cmp o g.before k j inside.1 (ap is_lt e)))
      go Equal e =
          let i = in_gap-same cmp o g j k (tied_back o k j e) inside in
          inr (inl (ap is_lt e, ap is_eq e, turned cmp o k j ∙ ap is_gt e, test_from_after cmp g.after k i.0, test_from_before cmp g.before k i.1))
      go Greater e =
          let up = turned cmp o k j ∙ ap is_gt e in
          inr (inr (ap is_lt e, ap is_eq e, up, test_from_after cmp g.after k (after_low cmp o g.after j k inside.0 up)))

  -- of keys that ascend in a gap the key is one, at most, where it is in the gap
  pub ascend_times : (g : Gap K) (ks : List K) → AscendIn cmp g ks → total (times_at cmp k) ks ≤ times_in cmp k g
  ascend_times g [] up = omega arith
  ascend_times g (j ∷ ks) up = omega (arith, ascend_times (part_behind g j) ks up.2, part_times g j (up.0, up.1))

  -- and then it isn't after them
  pub ascend_and_behind : {V : Type 0} (g : Gap K) (row : K × V) (rows : List (K × V)) → AscendIn cmp g (map (λ r. r.0) (row ∷ rows))
      → total (times_at cmp k) (map (λ r. r.0) (row ∷ rows)) + times_in cmp k (part_behind g (last_key row.0 rows)) ≤ times_in cmp k g
  ascend_and_behind g row [] up = omega (arith, part_times g row.0 (up.0, up.1))
  ascend_and_behind g row (next ∷ rows) up = omega (arith, ascend_and_behind (part_behind g row.0) next rows up.2, part_times g row.0 (up.0, up.1))

module _ {K V H : Type 0} (laws : Laws K V H) (o : IsTotalOrder laws.cmp) (local : Side K V H) (k : K) where
  new_gap_times : (g : Gap K) (page : Option (List ℕ)) (new : List (Gap K)) → IsNewGap laws local g page new → total (times_in laws.cmp k) new ≤ times_in laws.cmp k g
  new_gap_times g None new none = subst (λ hs. total (times_in laws.cmp k) hs ≤ times_in laws.cmp k g) (sym none) (omega arith)
  new_gap_times g (Some d) new is = by new (gap_or_none laws local g d new is)
    where
      by : (new : List (Gap K)) → IsGapOrNone laws local g new → total (times_in laws.cmp k) new ≤ times_in laws.cmp k g
      by [] one = omega arith
      by (own ∷ []) one = omega (arith, in-alike laws.cmp o k g own one)
      by (own ∷ other ∷ others) one = absurd one

  -- of the gaps into which keys part a gap, and the keys, it is in one or none
  pub new_gaps_times : (g : Gap K) (ks : List K) (pages : List (Option (List ℕ))) (new : List (Gap K)) → AreNewGaps laws local g ks pages new → AscendIn laws.cmp g ks
      → total (times_in laws.cmp k) new + total (times_at laws.cmp k) ks ≤ times_in laws.cmp k g
  new_gaps_times g [] [] new is up = absurd is
  new_gaps_times g [] (page ∷ []) new is up = omega (arith, new_gap_times g page new is)
  new_gaps_times g [] (page ∷ next ∷ pages) new is up = absurd is
  new_gaps_times g (j ∷ ks) [] new is up = absurd is
  new_gaps_times g (j ∷ ks) (page ∷ pages) new (first, rest, one, more, e) up =
      subst (λ hs. total (times_in laws.cmp k) hs + total (times_at laws.cmp k) (j ∷ ks) ≤ times_in laws.cmp k g) (sym e)
      (omega (
        arith,
        total-append (times_in laws.cmp k) first rest,
        new_gap_times (part_before g j) page first one,
        new_gaps_times (part_behind g j) ks pages rest more up.2,
        part_times laws.cmp o k g j (up.0, up.1),
      ))
