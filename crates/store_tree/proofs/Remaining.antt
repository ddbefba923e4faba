-- What is left of a scan of a level, and the nodes that it goes through.
use Rattle.std.proofs.Common.{◌≡◌, ◌<◌, ◌≤◌, ℕ, suc, Bool, true, false, if◌then◌else◌, List, [], ◌∷◌, ◌++◌, Some, None, refl, sym, ap, subst, ◌∙◌, inl, inr, Ordering, Less, Equal, Greater, is_eq, is_lt, arith}
use Rattle.std.specs.Prelude.{nat_le}
use Rattle.std.specs.Cmp.Lexicographic.{nat_list_cmp_total}
use Rattle.std.proofs.lemmas.Cmp.{tied_itself}
use Rattle.key_order.specs.Order.{Below}
use Rattle.key_order.specs.Map.{IsMap, get, rows_at}
use Rattle.key_order.proofs.ListParts.{each-at}
use Rattle.merkle_tree_theory.specs.Gap.{Gap, IsInGap, is_in_gap, pairs_within, part_before, part_behind}
use Rattle.store_tree.specs.Cells.{bytes_order, KeyDigests, AreUnder, HasKey, IsBoundAt, IsGapOf, IsProper, pairs_from}
use Rattle.store_tree.specs.Pages.{HasPair, gap_between}
use Rattle.store_tree.proofs.FrontOrder.{map_rows}
use Rattle.store_tree.proofs.Fronts.{Front}
use Rattle.store_tree.proofs.Parts.{back_within, front_within, key_in}
use Rattle.store_tree.proofs.Places.{swapped}
use Rattle.store_tree.proofs.Writing.{le_is, le_not}

module _ (lev : List ℕ → ℕ) (m : KeyDigests) (up : IsMap bytes_order m) (l : ℕ) where
  abbrev on_level : List ℕ → Bool
  on_level key = nat_le l (lev key)

  abbrev ps : KeyDigests
  ps = pairs_from lev m l

  ps_up : IsMap bytes_order ps
  ps_up = map_rows on_level m up

  -- the pairs of the level in a gap are those of the gap on the level
  within_swapped : (gap : Gap (List ℕ)) → pairs_within bytes_order gap ps ≡ rows_at on_level (pairs_within bytes_order gap m)
  within_swapped gap = swapped (λ p. is_in_gap bytes_order p.0 gap) (λ p. on_level p.0) m

  -- where a gap has none of the level, all its keys are under it
  none_under : (qs : KeyDigests) → rows_at on_level qs ≡ [] → AreUnder lev l qs
  none_under [] e = tt
  none_under (q ∷ qs) e = by (on_level q.0) refl e (none_under qs)
    where
      by : (b : Bool) → on_level q.0 ≡ b → (if b then (q ∷ rows_at on_level qs) else (rows_at on_level qs)) ≡ [] → (rows_at on_level qs ≡ [] → AreUnder lev l qs) → AreUnder lev l (q ∷ qs)
      by true on none f = absurd (let never = none in cc)
      by false on none f = (le_not l (lev q.0) on, f none)

  pub all_under : (gap : Gap (List ℕ)) → pairs_within bytes_order gap ps ≡ [] → AreUnder lev l (pairs_within bytes_order gap m)
  all_under gap e = none_under (pairs_within bytes_order gap m) (sym (within_swapped gap) ∙ e)

  -- a list that has a pair among those that pass has it
  passing_pair : (test : List ℕ → Bool) (xs : KeyDigests) (q : List ℕ × List ℕ) (qs : KeyDigests) → rows_at test xs ≡ q ∷ qs → HasPair xs q × (test q.0 ≡ true)
  passing_pair test [] q qs e = absurd (let never = e in cc)
  passing_pair test (x ∷ xs) q qs e = by (test x.0) refl e (passing_pair test xs q qs)
    where
      by : (b : Bool) → test x.0 ≡ b → (if b then (x ∷ rows_at test xs) else (rows_at test xs)) ≡ q ∷ qs → (rows_at test xs ≡ q ∷ qs → HasPair xs q × (test q.0 ≡ true)) → HasPair (x ∷ xs) q
          × (test q.0 ≡ true)
      by true on here f =
          let same : x ≡ q = cc in
          (([], xs, ap (λ y. y ∷ xs) same), subst (λ (y : List ℕ × List ℕ). test y.0 ≡ true) same on)
      by false on here f = let ((front, back, is), on_it) = f here in ((x ∷ front, back, ap (λ ys. x ∷ ys) is), on_it)

  middle_key : (front : KeyDigests) (q : List ℕ × List ℕ) (back : KeyDigests) → HasKey (front ++ q ∷ back) q.0
  middle_key [] q back = inl refl
  middle_key (x ∷ front) q back = inr (middle_key front q back)

  passed_key : (test : List ℕ → Bool) (xs : KeyDigests) (k : List ℕ) → HasKey (rows_at test xs) k → HasKey xs k
  passed_key test [] k h = absurd h
  passed_key test (x ∷ xs) k h = by (test x.0) h (passed_key test xs k)
    where
      by : (b : Bool) → HasKey (if b then (x ∷ rows_at test xs) else (rows_at test xs)) k → (HasKey (rows_at test xs) k → HasKey xs k) → HasKey (x ∷ xs) k
      by true (inl e) f = inl e
      by true (inr h) f = inr (f h)
      by false h f = inr (f h)

  middle_get : (xs : KeyDigests) → IsMap bytes_order xs → (q : List ℕ × List ℕ) → HasPair xs q → get bytes_order xs q.0 ≡ Some q.1
  middle_get xs map_is q (front, back, is) = subst (λ ys. get bytes_order ys q.0 ≡ Some q.1) (sym is) (by front (subst (IsMap bytes_order) is map_is))
    where
      by : (front : KeyDigests) → IsMap bytes_order (front ++ q ∷ back) → get bytes_order (front ++ q ∷ back) q.0 ≡ Some q.1
      by [] u = rw (tied_itself nat_list_cmp_total q.0) refl
      by (x ∷ front) u = rw (apart (bytes_order x.0 q.0) (each-at (λ (s : List ℕ × List ℕ). Below bytes_order x.0 s.0) front q back u.0)) (by front u.1)
        where
          apart : (o : Ordering) → is_lt o ≡ true → is_eq o ≡ false
          apart Less h = refl
          apart Equal h = absurd (let e = h in cc)
          apart Greater h = absurd (let e = h in cc)

  -- a gap of the level, or more of them, up to a bound
  pub record Remains (f before : Front) : Type 0 where
    pub begins : IsBoundAt lev m l f
    pub ends : IsBoundAt lev m l before
    pub proper : IsProper f before
    pub upto : AreUnder lev (suc l) (pairs_within bytes_order (gap_between f before) m)

  -- where no key of the level is left, what is left is one gap
  pub last_gap : (f before : Front) → Remains f before → pairs_within bytes_order (gap_between f before) ps ≡ [] → IsGapOf lev m l f (gap_between f before)
  last_gap f before r none = record { after = refl; begins = r.begins; before = r.ends; proper = r.proper; under = all_under (gap_between f before) none }

  -- else it is one gap and the rest
  pub record Parted (f before : Front) (q : List ℕ × List ℕ) (qs : KeyDigests) : Type 0 where
    pub gap : IsGapOf lev m l f (gap_between f (Some q.0))
    pub rest : Remains (Some q.0) before
    pub left : pairs_within bytes_order (gap_between (Some q.0) before) ps ≡ qs
    pub has : HasPair (pairs_within bytes_order (gap_between f before) m) q
    pub on : lev q.0 ≡ l
    pub value : get bytes_order m q.0 ≡ Some q.1

  pub next_gap : (f before : Front) (q : List ℕ × List ℕ) (qs : KeyDigests) → Remains f before → pairs_within bytes_order (gap_between f before) ps ≡ q ∷ qs → Parted f before q qs
  next_gap f before q qs r is =
      let gap : Gap (List ℕ) = gap_between f before in
      let (has, level) = passing_pair on_level (pairs_within bytes_order gap m) q qs (sym (within_swapped gap) ∙ is) in
      let inside : IsInGap bytes_order q.0 gap = key_in bytes_order nat_list_cmp_total gap ps ps_up [] q qs is in
      let first : pairs_within bytes_order (part_before gap q.0) ps ≡ [] = front_within bytes_order nat_list_cmp_total gap ps ps_up [] q qs is in
      let second : pairs_within bytes_order (part_behind gap q.0) ps ≡ qs = back_within bytes_order nat_list_cmp_total gap ps ps_up [] q qs is in
      let whole : HasPair m q = in_map (λ k. is_in_gap bytes_order k gap) m has in
      let there_is : HasKey m q.0 = subst (λ xs. HasKey xs q.0) (sym whole.2) (middle_key whole.0 q whole.1) in
      let most : l ≤ lev q.0 = le_is l (lev q.0) level in
      record {
        gap = record { after = refl; begins = r.begins; before = (there_is, most); proper = low f inside; under = all_under (gap_between f (Some q.0)) first };
        rest = record { begins = (there_is, most); ends = r.ends; proper = ahead before inside; upto = behind has };
        left = second;
        has = has;
        on = level_is has most;
        value = middle_get m up q whole;
      }
    where
      in_map : (test : List ℕ → Bool) (xs : KeyDigests) → HasPair (rows_at test xs) q → HasPair xs q
      in_map test [] (front, back, e) = absurd (none front e)
        where
          none : (front : KeyDigests) → [] ≡ front ++ q ∷ back → ⊥
          none [] e = absurd (let never = e in cc)
          none (x ∷ front) e = absurd (let never = e in cc)
      in_map test (x ∷ xs) has = by (test x.0) has (in_map test xs)
        where
          more : HasPair xs q → HasPair (x ∷ xs) q
          more (front, back, e) = (x ∷ front, back, ap (λ ys. x ∷ ys) e)

          by : (b : Bool) → HasPair (if b then (x ∷ rows_at test xs) else (rows_at test xs)) q → (HasPair (rows_at test xs) q → HasPair xs q) → HasPair (x ∷ xs) q
          by true ([], back, e) f = let same : x ≡ q = cc in ([], xs, ap (λ y. y ∷ xs) same)
          by true (y ∷ front, back, e) f = let rest : rows_at test xs ≡ front ++ q ∷ back = cc in more (f (front, back, rest))
          by false h f = more (f h)

      low : (f : Front) → IsInGap bytes_order q.0 (gap_between f before) → IsProper f (Some q.0)
      low None i = tt
      low (Some a) i = i.0

      ahead : (before : Front) → IsInGap bytes_order q.0 (gap_between f before) → IsProper (Some q.0) before
      ahead None i = tt
      ahead (Some b) i = i.1

      level_is : HasPair (pairs_within bytes_order (gap_between f before) m) q → l ≤ lev q.0 → lev q.0 ≡ l
      level_is (front, back, e) most =
          let less : lev q.0 < suc l = each-at (λ (p : List ℕ × List ℕ). lev p.0 < suc l) front q back (subst (AreUnder lev (suc l)) e r.upto) in
          omega (arith, less, most)

      behind : HasPair (pairs_within bytes_order (gap_between f before) m) q → AreUnder lev (suc l) (pairs_within bytes_order (gap_between (Some q.0) before) m)
      behind (front, back, e) =
          let rest : pairs_within bytes_order (part_behind (gap_between f before) q.0) m ≡ back = back_within bytes_order nat_list_cmp_total (gap_between f before) m up front q back e in
          subst (AreUnder lev (suc l)) (sym rest) (last_part front (subst (AreUnder lev (suc l)) e r.upto))
        where
          last_part : (xs : KeyDigests) → AreUnder lev (suc l) (xs ++ q ∷ back) → AreUnder lev (suc l) back
          last_part [] a = a.1
          last_part (x ∷ xs) a = last_part xs a.1
