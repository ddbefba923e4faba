-- Of a list that descends, the first of each key.
use Rattle.std.proofs.Common.{◌≡◌, ℕ, Bool, true, false, cond, List, [], ◌∷◌, ◌++◌, ◌<◌, ◌≤◌, length, get_or, suc, reverse, All, Option, Some, IsSomeAnd, refl, sym, ap, subst, ◌∙◌, arith}
use Rattle.std.specs.Prelude.{⊤}
use Rattle.std.specs.List.{AllByRecursion, Contains, dedup, dedup_from}
use Rattle.std.specs.List.Sorted.{IsPermutation, IsSorted}
use Rattle.std.specs.Cmp.{IsTotalOrder}
use Rattle.std.specs.Ordering.{is_eq, is_lt, is_gt, ordering_then}
use Rattle.std.specs.declared.cmp.Ordering.{Ordering}
use Rattle.std.specs.declared.cmp.Ordering.TheVariants.{Less, Equal, Greater}
use Rattle.std.proofs.lemmas.Cmp.{then_total, on_total, tied_itself, tied_back, alike_right}
use Rattle.std.proofs.lemmas.List.{reverse-append}
use Rattle.std.proofs.lemmas.List.Elements.{All-cons, All-nil, All-push, All-tail, All-head, All-from_recursion, recursion_from_All, All-weaker, All-contains_itself}
use Rattle.std.proofs.lemmas.List.Filters.{All-dedup}
use Rattle.std.proofs.lemmas.List.Sorted.{IsPermutation-reverse, All-permutation, IsPermutation-sym, IsPermutation-trans, sorted_far, ranks_by}
use Rattle.key_order.specs.Order.{Upto, Below, Same}
use Rattle.key_order.specs.Map.{IsMap, get}
use Rattle.key_order.proofs.Bools.{is_equal}
use Rattle.key_order.proofs.ListParts.{each-append}
use Rattle.key_order.proofs.Maps.{at_head, past_head}
use Rattle.key_order.proofs.Orders.{turned, turned', up_low, up_self}

-- what a comparison in two steps tells of the first, and of the second where the first is a tie
not_less : (o p : Ordering) → is_lt (ordering_then o p) ≡ false → is_lt o ≡ false
not_less Less p h = absurd (let e = h in cc)
not_less Equal p h = refl
not_less Greater p h = refl

not_less_tied : (o p : Ordering) → o ≡ Equal → is_lt (ordering_then o p) ≡ false → is_lt p ≡ false
not_less_tied Less p e h = absurd (let k = e in cc)
not_less_tied Equal p e h = h
not_less_tied Greater p e h = absurd (let k = e in cc)

module _ {K V : Type 0} (ck : K → K → Ordering) (ok : IsTotalOrder ck) (cv : V → V → Ordering) (ov : IsTotalOrder cv)
    (same : K × V → K × V → Bool) (ties : (a b : K × V) → same a b ≡ is_eq (ck a.0 b.0)) where
  abbrev pub pair_order : K × V → K × V → Ordering
  pair_order a b = ordering_then (ck a.0 b.0) (cv a.1 b.1)

  -- a may stand before b in a list that descends
  abbrev Over : K × V → K × V → Type 0
  Over a b = is_lt (pair_order a b) ≡ false

  abbrev Descends : List (K × V) → Type 0
  Descends [] = ⊤
  Descends (x ∷ xs) = All (Over x) xs × Descends xs

  -- the first of the rows at the key of e is no earlier than e
  abbrev HasLatest : List (K × V) → K × V → Type 0
  HasLatest rows e = IsSomeAnd (get ck rows e.0) (λ v. is_lt (cv v e.1) ≡ false)

  key_down : (a b : K × V) → Over a b → Upto ck b.0 a.0
  key_down a b h = sym (turned ck ok b.0 a.0) ∙ not_less (ck a.0 b.0) (cv a.1 b.1) h

  keys_down : (k : K × V) (xs : List (K × V)) → All (Over k) xs → All (λ y. Upto ck y.0 k.0) (dedup_from same k xs)
  keys_down k xs over = All-dedup same (λ y. Upto ck y.0 k.0) (k ∷ xs)
      (All-cons (λ y. Upto ck y.0 k.0) k xs (up_self ck ok k.0) (All-weaker (Over k) (λ y. Upto ck y.0 k.0) (λ y h. key_down k y h) xs over))

  -- a key that is at most k's, and isn't the same, is below it
  below_by : (x k : K × V) → Upto ck x.0 k.0 → same x k ≡ false → Below ck x.0 k.0
  below_by x k up other = by (ck x.0 k.0) up (sym (ties x k) ∙ other)
    where
      by : (o : Ordering) → is_gt o ≡ false → is_eq o ≡ false → is_lt o ≡ true
      by Less g e = refl
      by Equal g e = absurd (let h = e in cc)
      by Greater g e = absurd (let h = g in cc)

  -- what is kept descends strictly by key
  abbrev Falls : List (K × V) → Type 0
  Falls = IsMap (λ a b. ck b a)

  falls : (k : K × V) (xs : List (K × V)) → All (Over k) xs → Descends xs → Falls (dedup_from same k xs)
  falls k [] over down = (tt, tt)
  falls k (x ∷ xs) over down = step (same x k) refl (falls k xs (All-tail (Over k) x xs over) down.1) (falls x xs down.0 down.1)
    where
      step : (b : Bool) → same x k ≡ b → Falls (dedup_from same k xs) → Falls (dedup_from same x xs) → Falls (dedup_from same k (x ∷ xs))
      step true h past more = rw h past
      step false h past more =
          let lower = below_by x k (key_down k x (All-head (Over k) x xs over)) h in
          rw h (
            recursion_from_All (λ s. Below ck s.0 k.0) (dedup_from same x xs)
                (All-weaker (λ y. Upto ck y.0 x.0) (λ s. Below ck s.0 k.0) (λ y up. up_low ck ok y.0 x.0 k.0 up lower) (dedup_from same x xs) (keys_down x xs down.0)),
            more,
          )

  -- the first stays
  first : (k : K × V) (xs : List (K × V)) (j : K) → Same ck k.0 j → get ck (dedup_from same k xs) j ≡ Some k.1
  first k [] j is = at_head ck ok k [] j is
  first k (x ∷ xs) j is = step (same x k) refl (first k xs j is)
    where
      step : (b : Bool) → same x k ≡ b → get ck (dedup_from same k xs) j ≡ Some k.1 → get ck (dedup_from same k (x ∷ xs)) j ≡ Some k.1
      step true h past = rw h past
      step false h past = rw h (at_head ck ok k (dedup_from same x xs) j is)

  -- a key that is below k's isn't its key
  apart : (x k : K × V) → Below ck x.0 k.0 → is_eq (ck k.0 x.0) ≡ false
  apart x k low = by (ck k.0 x.0) (turned' ck ok x.0 k.0 ∙ low)
    where
      by : (o : Ordering) → is_gt o ≡ true → is_eq o ≡ false
      by Less g = refl
      by Equal g = absurd (let h = g in cc)
      by Greater g = refl

  at_first : (k : K × V) (xs : List (K × V)) (e : K × V) → Same ck k.0 e.0 → is_lt (cv k.1 e.1) ≡ false → HasLatest (dedup_from same k xs) e
  at_first k xs e is late = subst (λ (o : Option V). IsSomeAnd o (λ v. is_lt (cv v e.1) ≡ false)) (sym (first k xs e.0 is)) late

  here : (k : K × V) (rows : List (K × V)) → HasLatest (k ∷ rows) k
  here k rows = subst (λ (o : Option V). IsSomeAnd o (λ v. is_lt (cv v k.1) ≡ false)) (sym (at_head ck ok k rows k.0 (tied_itself ok k.0))) (ap is_lt (tied_itself ov k.1))

  behind : (k : K × V) (rows : List (K × V)) (e : K × V) → Below ck e.0 k.0 → HasLatest rows e → HasLatest (k ∷ rows) e
  behind k rows e low h = subst (λ (o : Option V). IsSomeAnd o (λ v. is_lt (cv v e.1) ≡ false)) (sym (past_head ck ok k rows e.0 (apart e k low))) h

  -- what is kept at the key of each is no earlier
  covers : (k : K × V) (xs : List (K × V)) → All (Over k) xs → Descends xs → All (HasLatest (dedup_from same k xs)) (k ∷ xs)
  covers k [] over down = All-cons (HasLatest (k ∷ [])) k [] (here k []) (All-nil (HasLatest (k ∷ [])))
  covers k (x ∷ xs) over down = step (same x k) refl (covers k xs (All-tail (Over k) x xs over) down.1) (covers x xs down.0 down.1)
    where
      step : (b : Bool) → same x k ≡ b → All (HasLatest (dedup_from same k xs)) (k ∷ xs) → All (HasLatest (dedup_from same x xs)) (x ∷ xs) → All (HasLatest (dedup_from same k (x ∷ xs))) (k ∷ x ∷ xs)
      step true h past more =
          let D = dedup_from same k xs in
          let H = HasLatest D in
          let is : Same ck k.0 x.0 = tied_back ok x.0 k.0 (is_equal (ck x.0 k.0) (sym (ties x k) ∙ h)) in
          let late = not_less_tied (ck k.0 x.0) (cv k.1 x.1) is (All-head (Over k) x xs over) in
          rw h (All-cons H k (x ∷ xs) (All-head H k xs past) (All-cons H x xs (at_first k xs x is late) (All-tail H k xs past)))
      step false h past more =
          let D = dedup_from same x xs in
          let H = HasLatest (k ∷ D) in
          let lower = below_by x k (key_down k x (All-head (Over k) x xs over)) h in
          let low : All (λ e. Below ck e.0 k.0) (x ∷ xs) =
          All-cons (λ e. Below ck e.0 k.0) x xs lower (All-weaker (Over x) (λ e. Below ck e.0 k.0) (λ e o. up_low ck ok e.0 x.0 k.0 (key_down x e o) lower) xs down.0) in
          rw h (All-cons H k (x ∷ xs) (here k D) (λ i d l. behind k D (get_or (x ∷ xs) i d) (low i d l) (more i d l)))

  -- of a list that falls, back to front
  snoc : (m : List (K × V)) (r : K × V) → IsMap ck m → AllByRecursion (λ s. Below ck s.0 r.0) m → IsMap ck (m ++ r ∷ [])
  snoc [] r up low = (tt, tt)
  snoc (s ∷ m) r up low = (each-append (λ t. Below ck s.0 t.0) m (r ∷ []) up.0 (low.0, tt), snoc m r up.1 low.1)

  get_snoc : (m : List (K × V)) (r : K × V) (j : K) → AllByRecursion (λ s. Below ck s.0 r.0) m → get ck (m ++ r ∷ []) j ≡ get ck (r ∷ m) j
  get_snoc [] r j low = refl
  get_snoc (s ∷ m) r j low = step (is_eq (ck r.0 j)) refl (get_snoc m r j low.1)
    where
      not_eq : (o : Ordering) → is_lt o ≡ true → is_eq o ≡ false
      not_eq Less h = refl
      not_eq Equal h = absurd (let e = h in cc)
      not_eq Greater h = refl

      step : (b : Bool) → is_eq (ck r.0 j) ≡ b → get ck (m ++ r ∷ []) j ≡ get ck (r ∷ m) j → get ck (s ∷ (m ++ r ∷ [])) j ≡ get ck (r ∷ s ∷ m) j
      step true h rest =
          let is : Same ck r.0 j = is_equal (ck r.0 j) h in
          let other : is_eq (ck s.0 j) ≡ false = ap is_eq (sym (alike_right ok r.0 j s.0 is)) ∙ not_eq (ck s.0 r.0) low.0 in
          past_head ck ok s (m ++ r ∷ []) j other ∙ rest ∙ at_head ck ok r m j is ∙ sym (at_head ck ok r (s ∷ m) j is)
      step false h rest = ap (λ o. cond (is_eq (ck s.0 j)) (Some s.1) o) (rest ∙ past_head ck ok r m j h) ∙ sym (past_head ck ok r (s ∷ m) j h)

  back : (x : K × V) (xs : List (K × V)) → reverse (x ∷ xs) ≡ reverse xs ++ x ∷ []
  back x xs = reverse-append (x ∷ []) xs

  all_back : (P : K × V → Type 0) (xs : List (K × V)) → All P xs → All P (reverse xs)
  all_back P xs all = All-permutation P xs (reverse xs) (IsPermutation-reverse xs) all

  lower_back : (x : K × V) (xs : List (K × V)) → Falls (x ∷ xs) → AllByRecursion (λ s. Below ck s.0 x.0) (reverse xs)
  lower_back x xs h = recursion_from_All (λ s. Below ck s.0 x.0) (reverse xs) (all_back (λ s. Below ck s.0 x.0) xs (All-from_recursion (λ s. Below ck s.0 x.0) xs h.0))

  rises : (xs : List (K × V)) → Falls xs → IsMap ck (reverse xs)
  rises [] h = tt
  rises (x ∷ xs) h = subst (IsMap ck) (sym (back x xs)) (snoc (reverse xs) x (rises xs h.1) (lower_back x xs h))

  get_back : (xs : List (K × V)) (j : K) → Falls xs → get ck (reverse xs) j ≡ get ck xs j
  get_back [] j h = refl
  get_back (x ∷ xs) j h =
      ap (λ m. get ck m j) (back x xs) ∙ get_snoc (reverse xs) x j (lower_back x xs h) ∙ ap (λ o. cond (is_eq (ck x.0 j)) (Some x.1) o) (get_back xs j h.1)

  -- a list that is sorted descends back to front
  abbrev Ascends : List (K × V) → Type 0
  Ascends ys = (i j : ℕ) (d : K × V) → i ≤ j → j < length ys → Over (get_or ys j d) (get_or ys i d)

  descends_snoc : (m : List (K × V)) (y : K × V) → Descends m → All (λ s. Over s y) m → Descends (m ++ y ∷ [])
  descends_snoc [] y down low = (All-nil (Over y), tt)
  descends_snoc (s ∷ m) y down low = (All-push (Over s) m y down.0 (All-head (λ t. Over t y) s m low), descends_snoc m y down.1 (All-tail (λ t. Over t y) s m low))

  descends : (ys : List (K × V)) → Ascends ys → Descends (reverse ys)
  descends [] up = tt
  descends (y ∷ ys) up =
      subst Descends (sym (back y ys))
      (descends_snoc (reverse ys) y (descends ys (λ i j d le l. up (suc i) (suc j) d (omega arith) (omega arith)))
      (all_back (λ s. Over s y) ys (λ i d l. up 0 (suc i) d (omega arith) (omega arith))))

  pairs_total : IsTotalOrder pair_order
  pairs_total = then_total (on_total (λ (p : K × V). p.0) ok) (on_total (λ (p : K × V). p.1) ov)

  ascends : (ys : List (K × V)) → IsSorted pair_order ys → Ascends ys
  ascends ys sorted = sorted_far (λ x y. is_lt (pair_order x y)) (ranks_by pairs_total (λ (p : K × V). p)) ys sorted

  -- the first of each key of a list that descends
  abbrev kept : List (K × V) → List (K × V)
  kept = dedup same

  kept_falls : (zs : List (K × V)) → Descends zs → Falls (kept zs)
  kept_falls [] down = tt
  kept_falls (z ∷ zs) down = falls z zs down.0 down.1

  kept_covers : (zs : List (K × V)) → Descends zs → All (HasLatest (kept zs)) zs
  kept_covers [] down = All-nil (HasLatest [])
  kept_covers (z ∷ zs) down = covers z zs down.0 down.1

  -- what a sort, a reversal, a dedup and a reversal leave of entries
  module _ (entries sorted : List (K × V)) (moved : IsPermutation entries sorted) (up : IsSorted pair_order sorted) where
    abbrev rows : List (K × V)
    rows = reverse (kept (reverse sorted))

    down : Descends (reverse sorted)
    down = descends sorted (ascends sorted up)

    turned_round : IsPermutation entries (reverse sorted)
    turned_round = IsPermutation-trans entries sorted (reverse sorted) moved (IsPermutation-reverse sorted)

    pub rows_ascend : IsMap ck (reverse (kept (reverse sorted)))
    rows_ascend = rises (kept (reverse sorted)) (kept_falls (reverse sorted) down)

    pub rows_taken : All (Contains entries) (reverse (kept (reverse sorted)))
    rows_taken =
        all_back (Contains entries) (kept (reverse sorted))
        (All-dedup same (Contains entries) (reverse sorted) (All-permutation (Contains entries) entries (reverse sorted) turned_round (All-contains_itself entries)))

    pub rows_latest : All (λ e. IsSomeAnd (get ck (reverse (kept (reverse sorted))) e.0) (λ v. is_lt (cv v e.1) ≡ false)) entries
    rows_latest =
        let all = All-permutation (HasLatest (kept (reverse sorted))) (reverse sorted) entries (IsPermutation-sym entries (reverse sorted) turned_round) (kept_covers (reverse sorted) down) in
        All-weaker (HasLatest (kept (reverse sorted))) (HasLatest (reverse (kept (reverse sorted))))
        (λ e h. subst (λ (o : Option V). IsSomeAnd o (λ v. is_lt (cv v e.1) ≡ false))
        (sym (get_back (kept (reverse sorted)) e.0 (kept_falls (reverse sorted) down))) h) entries all
