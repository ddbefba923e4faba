-- A level after a write of a key: nothing is known of the gap that has it, and all that is known of the others is still true.
use Rattle.std.proofs.Common.{◌≡◌, ◌≢◌, ◌<◌, ◌≤◌, ℕ, Bool, true, false, not, ◌&&◌, ◌||◌, if◌then◌else◌, List, [], ◌∷◌, ◌++◌, map, filter, Option, Some, None, refl, sym, ap, subst, ◌∙◌, append_assoc, ◌⊎◌, inl, inr, Ordering, Less, Equal, Greater, is_eq, is_lt, is_gt, arith}
use Rattle.std.specs.Prelude.{⊤, nat_le}
use Rattle.std.specs.List.{AllByRecursion}
use Rattle.std.specs.Cmp.Lexicographic.{nat_list_cmp_total}
use Rattle.std.proofs.lemmas.Cmp.{tied_itself}
use Rattle.std.proofs.lemmas.List.{map-append}
use Rattle.std.proofs.lemmas.List.Elements.{filter_agree, filter_passes, recursion_from_All}
use Rattle.std.proofs.lemmas.Map.Text.{is_eq-slice_cmp}
use Rattle.key_order.specs.Order.{Below, Upto}
use Rattle.key_order.specs.Map.{IsMap, rows_at, set}
use Rattle.key_order.proofs.Bools.{which}
use Rattle.key_order.proofs.Orders.{low_up, not_both, low_is_up, up_low}
use Rattle.key_order.proofs.ListParts.{each-append, each-before, each-behind, each-at}
use Rattle.merkle_tree_theory.specs.Gap.{Gap, IsAfter, IsBefore, IsInGap, is_in_gap, pairs_within}
use Rattle.merkle_tree_theory.specs.TreeOf.{gap_of}
use Rattle.merkle_tree_theory.proofs.InGaps.{in_gap_from_test, test_from_in_gap}
use Rattle.sqlite_value.specs.Order.{Row}
use Rattle.sqlite_value.specs.Keys.{plain}
use Rattle.sqlite_trees.specs.Tree.{IsAscending, IsIndex, insert_entry, remove_entry}
use Rattle.sqlite_trees.proofs.ListLemmas.{all_weaker, filter-map}
use Rattle.store_tree.specs.Cells.{bytes_order, KeyDigests, AreUnder, fronts_of, IsPageWith, IsBoundAt, IsGapOf, Knows, HoldsLevel, pairs_from}
use Rattle.store_tree.specs.Rows.{bound_bytes, cell_row, count_value, front_value, known_value, row_of_cell, is_level, is_upto, rows_on, rows_upto, with_known}
use Rattle.store_tree.specs.Tables.{GivesLast}
use Rattle.store_tree.specs.Touches.{Touches, cleared, cleared_of, is_front, split}
use Rattle.store_tree.specs.declared.cell.Cell.{Cell}
use Rattle.store_tree.specs.declared.cell.Known.{Known}
use Rattle.store_tree.specs.declared.cell.Known.TheVariants.{Unknown, Nothing, Page}
use Rattle.store_tree.proofs.FrontOrder.{map_rows, fronts_ascend, middle, last_of, upto_row, passes_upto, own_is, same_front, same_known, front_below, front_above, below_true, above_true, not_less, upto_not_above, self_not_below}
use Rattle.store_tree.proofs.Fronts.{Front, FrontBelow, FrontUpto, FrontAbove, front_upto, fronts_split, fronts_set}
use Rattle.store_tree.proofs.Members.{Has, all_has, has_passing}
use Rattle.store_tree.proofs.Places.{row_at, swapped, filter_both, replaced_sorted, replaced_here, replaced_other, inserted_here, inserted_other}
use Rattle.store_tree.proofs.Sets.{set_own, set_other, set_keeps}
use Rattle.sqlite_trees.proofs.TreeLemmas.{IsIndex-insert_entry}

-- ---- gaps that the key isn't in

module _ (lev : List ℕ → ℕ) (m : KeyDigests) (l : ℕ) (key d : List ℕ) where
  abbrev pub with_set : KeyDigests
  with_set = set bytes_order m key d

  pairs_same : (gap : Gap (List ℕ)) → is_in_gap bytes_order key gap ≡ false → pairs_within bytes_order gap with_set ≡ pairs_within bytes_order gap m
  pairs_same gap out = set_other (λ k. is_in_gap bytes_order k gap) m key d out

  bound_stays : (b : Option (List ℕ)) → IsBoundAt lev m l b → IsBoundAt lev with_set l b
  bound_stays None h = tt
  bound_stays (Some k) h = (set_keeps m key d k h.0, h.1)

  gap_stays : (front : Front) (gap : Gap (List ℕ)) → is_in_gap bytes_order key gap ≡ false → IsGapOf lev m l front gap → IsGapOf lev with_set l front gap
  gap_stays front gap out is = record {
    after = is.after;
    begins = bound_stays front is.begins;
    before = bound_stays gap.before is.before;
    proper = is.proper;
    under =
        subst (AreUnder lev l) (sym (pairs_same gap out)) is.under;
  }

  -- what is known of a gap stays true
  pub known_stays : (k : Known) (front : Front) → ((gap : Gap (List ℕ)) → IsGapOf lev m l front gap → is_in_gap bytes_order key gap ≡ false) → Knows lev m l k front → Knows lev with_set l k front
  known_stays Unknown front out h = tt
  known_stays Nothing front out (gap, is, none) = (gap, gap_stays front gap (out gap is) is, ap (gap_of lev 256) (pairs_same gap (out gap is)) ∙ none)
  known_stays (Page digest count) front out (gap, is, it) = (gap, gap_stays front gap (out gap is) is, subst (λ ps. IsPageWith digest count (gap_of lev 256 ps)) (sym (pairs_same gap (out gap is))) it)

  not_in : (gap : Gap (List ℕ)) → (IsInGap bytes_order key gap → ⊥) → is_in_gap bytes_order key gap ≡ false
  not_in gap f = by (which (is_in_gap bytes_order key gap))
    where
      by : (is_in_gap bytes_order key gap ≡ false) ⊎ (is_in_gap bytes_order key gap ≡ true) → is_in_gap bytes_order key gap ≡ false
      by (inl h) = h
      by (inr h) = absurd (f (in_gap_from_test bytes_order key gap h))

  ahead_too : (before : Option (List ℕ)) (k : List ℕ) → Upto bytes_order k key → IsBefore bytes_order before key → IsBefore bytes_order before k
  ahead_too None k up h = tt
  ahead_too (Some b) k up h = up_low bytes_order nat_list_cmp_total k key b up h

  after_is : (front : Front) (after : Option (List ℕ)) (k : List ℕ) → after ≡ front → FrontBelow front (Some k) → IsAfter bytes_order after k
  after_is front after k is low = subst (λ a. IsAfter bytes_order a k) (sym is) (by front low)
    where
      by : (front : Front) → FrontBelow front (Some k) → IsAfter bytes_order front k
      by None low = tt
      by (Some a) low = low

  -- a gap that begins below a front up to the key ends before it
  pub before_key : (front : Front) (q : List ℕ × List ℕ) → Has m q → l ≤ lev q.0 → FrontBelow front (Some q.0) → Upto bytes_order q.0 key → (gap : Gap (List ℕ)) → IsGapOf lev m l front gap
      → is_in_gap bytes_order key gap ≡ false
  before_key front q there on low up gap is = not_in gap (λ inside.
      let here : IsInGap bytes_order q.0 gap = (after_is front gap.after q.0 is.after low, ahead_too gap.before q.0 up inside.1) in
      let within : Has (pairs_within bytes_order gap m) q = has_passing (λ k. is_in_gap bytes_order k gap) m q there (test_from_in_gap bytes_order q.0 gap here) in
      let less : lev q.0 < l = all_has (λ (p : List ℕ × List ℕ). lev p.0 < l) (pairs_within bytes_order gap m) q is.under within in
      omega (arith, less, on))

  -- a gap that begins above the key doesn't have it
  pub behind_key : (front : Front) → FrontAbove key front → (gap : Gap (List ℕ)) → IsGapOf lev m l front gap → is_in_gap bytes_order key gap ≡ false
  behind_key None above gap is = absurd above
  behind_key (Some a) above gap is = not_in gap (λ inside.
      let low : Below bytes_order a key = subst (λ b. IsAfter bytes_order b key) is.after inside.0 in
      not_both bytes_order nat_list_cmp_total a key (low_is_up bytes_order nat_list_cmp_total a key low) above)

module _ (lev : List ℕ → ℕ) (m : KeyDigests) (up : IsMap bytes_order m) (l : ℕ) (key d : List ℕ) (rows : List Row) (sorted : IsIndex plain rows) (h : HoldsLevel lev m l rows) where
  abbrev on_level : List ℕ → Bool
  on_level k = nat_le l (lev k)

  abbrev ps : KeyDigests
  ps = pairs_from lev m l

  ps_up : IsMap bytes_order ps
  ps_up = map_rows on_level m up

  abbrev r : Front → Row
  r = row_at l h.known

  -- the cell of the gap that has the key, or begins above it
  record Found (c : Cell) : Type 0 where
    bs : List Front
    f : Front
    back : List Front
    fronts_are : fronts_of ps ≡ bs ++ f ∷ back
    upto : AllByRecursion (λ g. FrontUpto key g) (bs ++ f ∷ [])
    above : AllByRecursion (λ g. FrontAbove key g) back
    row_is : r f ≡ row_of_cell c

  found : (c : Cell) → GivesLast (rows_upto l key rows) (row_of_cell c) true → Found c
  found c (before, ends) =
      let upto_is : rows_upto l key rows ≡ map r (filter (front_upto key) (fronts_of ps)) =
      sym (filter_both (is_level l) (is_upto key) rows) ∙ swapped (is_level l) (is_upto key) rows ∙ ap (filter (is_upto key)) h.fronts ∙ filter-map (is_upto key) r (fronts_of ps)
      ∙ ap (map r) (filter_agree (λ f. is_upto key (r f)) (front_upto key) (λ f. upto_row key l f (h.known f)) (fronts_of ps)) in
      let s = fronts_split key ps ps_up in
      let last = last_of r (filter (front_upto key) (fronts_of ps)) before (row_of_cell c) (sym upto_is ∙ ends) in
      let passing : AllByRecursion (λ g. FrontUpto key g) (filter (front_upto key) (fronts_of ps)) =
      all_weaker (λ g. front_upto key g ≡ true) (λ g. FrontUpto key g) (passes_upto key) (filter (front_upto key) (fronts_of ps))
      (recursion_from_All (λ g. front_upto key g ≡ true) (filter (front_upto key) (fronts_of ps)) (filter_passes (front_upto key) (fronts_of ps))) in
      record {
        bs = last.front;
        f = last.last;
        back = s.back;
        fronts_are = s.is ∙ ap (λ fs. fs ++ s.back) last.is ∙ append_assoc last.front (last.last ∷ []) s.back;
        upto = subst (AllByRecursion (λ g. FrontUpto key g)) last.is passing;
        above = s.above;
        row_is = last.at;
      }

  module _ (c : Cell) (w : Found c) where
    -- what is known after the write
    abbrev kept : Front → Known
    kept g = if front_below g w.f || front_above key g then h.known g else Unknown

    around : AllByRecursion (λ g. FrontBelow g w.f) w.bs × AllByRecursion (λ g. FrontBelow w.f g) w.back
    around = middle FrontBelow w.bs w.f w.back (subst (IsAscending FrontBelow) w.fronts_are (fronts_ascend ps ps_up))

    kept_low : (g : Front) → FrontBelow g w.f → kept g ≡ h.known g
    kept_low g low = rw (below_true g w.f low) refl

    kept_high : (g : Front) → FrontAbove key g → kept g ≡ h.known g
    kept_high g high = by (front_below g w.f) (front_above key g) (above_true key g high)
      where
        by : (a b : Bool) → b ≡ true → (if a || b then h.known g else Unknown) ≡ h.known g
        by true b e = refl
        by false b e = rw e refl

    kept_none : kept w.f ≡ Unknown
    kept_none = rw (self_not_below w.f) (rw (upto_not_above key w.f (last_upto w.bs w.upto)) refl)
      where
        last_upto : (bs : List Front) → AllByRecursion (λ g. FrontUpto key g) (bs ++ w.f ∷ []) → FrontUpto key w.f
        last_upto [] a = a.0
        last_upto (b ∷ bs) a = last_upto bs a.1

    -- a gap above the key, where it gets one
    abbrev extra : Bool → List Front
    extra true = Some key ∷ []
    extra false = []

    record Cleared (after : List Row) : Type 0 where
      here : rows_on l after ≡ map (row_at l kept) w.bs ++ cell_row l w.f Unknown ∷ map (row_at l kept) w.back
      in_order : IsIndex plain after
      others : (j : ℕ) → l ≢ j → rows_on j after ≡ rows_on j rows

    alike_low : (bs : List Front) → AllByRecursion (λ g. FrontBelow g w.f) bs → map r bs ≡ map (row_at l kept) bs
    alike_low [] a = refl
    alike_low (g ∷ bs) a = λ i. cell_row l g (sym (kept_low g a.0) i) ∷ alike_low bs a.1 i

    alike_high : (bs : List Front) → AllByRecursion (λ g. FrontAbove key g) bs → map r bs ≡ map (row_at l kept) bs
    alike_high [] a = refl
    alike_high (g ∷ bs) a = λ i. cell_row l g (sym (kept_high g a.0) i) ∷ alike_high bs a.1 i

    rows_are : rows_on l rows ≡ map (row_at l kept) w.bs ++ r w.f ∷ map (row_at l kept) w.back
    rows_are = h.fronts ∙ ap (map r) w.fronts_are ∙ map-append r w.bs (w.f ∷ w.back) ∙ (λ i. alike_low w.bs around.0 i ++ r w.f ∷ alike_high w.back w.above i)

    cleared_row : Cleared (insert_entry plain (cell_row l w.f Unknown) (remove_entry plain (r w.f) rows))
    cleared_row =
        record {
          here = replaced_here rows sorted l w.f kept w.bs w.back around.0 around.1 (h.known w.f) Unknown rows_are;
          in_order = replaced_sorted rows sorted l w.f (h.known w.f) Unknown;
          others = replaced_other rows sorted l w.f (h.known w.f) Unknown;
        }

    front_is : bound_bytes c.front ≡ w.f
    front_is =
        let is : cell_row l w.f (h.known w.f) ≡ cell_row c.level (bound_bytes c.front) c.known = w.row_is in
        let values : front_value (bound_bytes c.front) ≡ front_value w.f = cc in
        same_front (bound_bytes c.front) w.f values

    clears : Cleared (cleared c rows)
    clears = by c.known refl
      where
        level : c.level ≡ l
        level = let is : cell_row l w.f (h.known w.f) ≡ cell_row c.level (bound_bytes c.front) c.known = w.row_is in cc

        known_is : h.known w.f ≡ c.known
        known_is =
            let is : cell_row l w.f (h.known w.f) ≡ cell_row c.level (bound_bytes c.front) c.known = w.row_is in
            let values : known_value (h.known w.f) ≡ known_value c.known = cc in
            let counts : count_value (h.known w.f) ≡ count_value c.known = cc in
            same_known (h.known w.f) c.known values counts

        made : insert_entry plain (cell_row l w.f Unknown) (remove_entry plain (r w.f) rows) ≡ with_known c Unknown rows
        made = λ i. insert_entry plain (cell_row (sym level i) (sym front_is i) Unknown) (remove_entry plain (w.row_is i) rows)

        by : (k : Known) → c.known ≡ k → Cleared (cleared_of k c rows)
        by Unknown is = record { here = rows_are ∙ ap (λ k. map (row_at l kept) w.bs ++ cell_row l w.f k ∷ map (row_at l kept) w.back) (known_is ∙ is); in_order = sorted; others = λ j apart. refl }
        by Nothing is = subst Cleared made cleared_row
        by (Page digest count) is = subst Cleared made cleared_row

    -- ---- the fronts after the write

    fronts_then : (here : Bool) → nat_le l (lev key) ≡ here → fronts_of (pairs_from lev (with_set lev m l key d) l) ≡ w.bs ++ w.f ∷ (extra (here && not (is_front key w.f)) ++ w.back)
    fronts_then true is =
        ap fronts_of (set_own on_level m key d up is) ∙ fronts_set key d ps ps_up w.bs w.f w.back w.fronts_are w.upto w.above
        ∙ ap (λ fs. w.bs ++ w.f ∷ (fs ++ w.back)) (own_is key w.f ∙ extra_is (is_front key w.f))
      where
        extra_is : (b : Bool) → (if b then [] else (Some key ∷ [])) ≡ extra (not b)
        extra_is true = refl
        extra_is false = refl
    fronts_then false is = ap fronts_of (set_other on_level m key d is) ∙ w.fronts_are

    last_front : (P : Front → Type 0) (bs : List Front) → AllByRecursion P (bs ++ w.f ∷ []) → P w.f
    last_front P [] a = a.0
    last_front P (b ∷ bs) a = last_front P bs a.1

    key_unknown : kept (Some key) ≡ Unknown
    key_unknown = by w.f (last_front (λ g. FrontUpto key g) w.bs w.upto)
      where
        by : (f : Front) → FrontUpto key f → (if front_below (Some key) f || front_above key (Some key) then h.known (Some key) else Unknown) ≡ Unknown
        by None u = rw (not_less (bytes_order key key) (tied_itself nat_list_cmp_total key)) refl
        by (Some a) u = rw (upto_not_above key (Some a) u) (rw (not_less (bytes_order key key) (tied_itself nat_list_cmp_total key)) refl)

    strictly : (f : Front) → FrontUpto key f → is_front key f ≡ false → FrontBelow f (Some key)
    strictly None u e = tt
    strictly (Some a) u e = by (bytes_order a key) u (is_eq-slice_cmp a key ∙ e)
      where
        by : (o : Ordering) → is_gt o ≡ false → is_eq o ≡ false → is_lt o ≡ true
        by Less g h = refl
        by Equal g h = absurd (let never = h in cc)
        by Greater g h = absurd (let never = g in cc)

    below_upto : (g f : Front) → FrontBelow g f → FrontUpto key f → FrontBelow g (Some key)
    below_upto g None low u = absurd low
    below_upto None (Some b) low u = tt
    below_upto (Some a) (Some b) low u = low_up bytes_order nat_list_cmp_total a b key low u

    all_strictly : is_front key w.f ≡ false → AllByRecursion (λ g. FrontBelow g (Some key)) (w.bs ++ w.f ∷ [])
    all_strictly e =
        let u : FrontUpto key w.f = last_front (λ g. FrontUpto key g) w.bs w.upto in
        each-append (λ g. FrontBelow g (Some key)) w.bs (w.f ∷ []) (all_weaker (λ g. FrontBelow g w.f) (λ g. FrontBelow g (Some key)) (λ g low. below_upto g w.f low u) w.bs around.0)
        (strictly w.f u e, tt)

    all_higher : AllByRecursion (λ g. FrontBelow (Some key) g) w.back
    all_higher = all_weaker (λ g. FrontAbove key g) (λ g. FrontBelow (Some key) g) (λ g a. by g a) w.back w.above
      where
        by : (g : Front) → FrontAbove key g → FrontBelow (Some key) g
        by None a = absurd a
        by (Some b) a = a

    rows_then : (b : Bool) → (b ≡ true → is_front key w.f ≡ false) → rows_on l (split l key b (cleared c rows)) ≡ map (row_at l kept) (w.bs ++ w.f ∷ (extra b ++ w.back))
    rows_then false apart = clears.here ∙ ap (λ k. map (row_at l kept) w.bs ++ cell_row l w.f k ∷ map (row_at l kept) w.back) (sym kept_none) ∙ sym (map-append (row_at l kept) w.bs (w.f ∷ w.back))
    rows_then true apart =
        let seen : rows_on l (cleared c rows) ≡ map (row_at l kept) (w.bs ++ w.f ∷ []) ++ map (row_at l kept) w.back =
        clears.here ∙ ap (λ k. map (row_at l kept) w.bs ++ cell_row l w.f k ∷ map (row_at l kept) w.back) (sym kept_none)
        ∙ sym (append_assoc (map (row_at l kept) w.bs) (row_at l kept w.f ∷ []) (map (row_at l kept) w.back))
        ∙ ap (λ xs. xs ++ map (row_at l kept) w.back) (sym (map-append (row_at l kept) w.bs (w.f ∷ []))) in
        inserted_here (cleared c rows) clears.in_order l (Some key) kept (w.bs ++ w.f ∷ []) w.back (all_strictly (apart refl)) all_higher Unknown seen
        ∙ ap (λ k. map (row_at l kept) (w.bs ++ w.f ∷ []) ++ cell_row l (Some key) k ∷ map (row_at l kept) w.back) (sym key_unknown)
        ∙ sym (map-append (row_at l kept) (w.bs ++ w.f ∷ []) (Some key ∷ w.back)) ∙ ap (map (row_at l kept)) (append_assoc w.bs (w.f ∷ []) (Some key ∷ w.back))

    -- ---- what is known after the write

    abbrev IsPlace : Front → Type 0
    IsPlace None = ⊤
    IsPlace (Some k) = (q : List ℕ × List ℕ) × (q.0 ≡ k) × Has m q × (l ≤ lev k)

    places : AllByRecursion IsPlace (fronts_of ps)
    places = (tt, over m (λ q q_there. q_there))
      where
        from_le : (a b : ℕ) → nat_le a b ≡ true → a ≤ b
        from_le a b e = grind arith

        over : (qs : KeyDigests) → ((q : List ℕ × List ℕ) → Has qs q → Has m q) → AllByRecursion IsPlace (map (λ q. Some q.0) (rows_at on_level qs))
        over [] inside = tt
        over (q ∷ qs) inside = by (on_level q.0) refl (over qs (λ p p_there. inside p (inr p_there)))
          where
            by : (b : Bool) → on_level q.0 ≡ b → AllByRecursion IsPlace (map (λ p. Some p.0) (rows_at on_level qs))
                → AllByRecursion IsPlace (map (λ p. Some p.0) (if b then (q ∷ rows_at on_level qs) else (rows_at on_level qs)))
            by true e more = ((q, refl, inside q (inl refl), from_le l (lev q.0) e), more)
            by false e more = more

    abbrev KnowsThen : Front → Type 0
    KnowsThen g = Knows lev (with_set lev m l key d) l (kept g) g

    right_low : (g : Front) → FrontBelow g w.f → Knows lev m l (h.known g) g → KnowsThen g
    right_low g low right =
        let place : IsPlace w.f = each-at IsPlace w.bs w.f w.back (subst (AllByRecursion IsPlace) w.fronts_are places) in
        subst (λ k. Knows lev (with_set lev m l key d) l k g) (sym (kept_low g low))
        (known_stays lev m l key d (h.known g) g (λ gap is. by w.f place low (last_front (λ f. FrontUpto key f) w.bs w.upto) gap is) right)
      where
        by : (f : Front) → IsPlace f → FrontBelow g f → FrontUpto key f → (gap : Gap (List ℕ)) → IsGapOf lev m l g gap → is_in_gap bytes_order key gap ≡ false
        by None place low u gap is = absurd low
        by (Some k) (q, same, q_there, on) low u gap is =
            before_key lev m l key d g q q_there (subst (λ j. l ≤ lev j) (sym same) on) (subst (λ j. FrontBelow g (Some j)) (sym same) low) (subst (λ j. Upto bytes_order j key) (sym same) u) gap is

    right_high : (g : Front) → FrontAbove key g → Knows lev m l (h.known g) g → KnowsThen g
    right_high g high right = subst (λ k. Knows lev (with_set lev m l key d) l k g) (sym (kept_high g high))
        (known_stays lev m l key d (h.known g) g (λ gap is. behind_key lev m l key d g high gap is) right)

    nothing_known : (g : Front) → kept g ≡ Unknown → KnowsThen g
    nothing_known g is = subst (λ k. Knows lev (with_set lev m l key d) l k g) (sym is) tt

    all_two : (P Q R : Front → Type 0) → ((g : Front) → P g → Q g → R g) → (gs : List Front) → AllByRecursion P gs → AllByRecursion Q gs → AllByRecursion R gs
    all_two P Q R f [] a b = tt
    all_two P Q R f (g ∷ gs) a b = (f g a.0 b.0, all_two P Q R f gs a.1 b.1)

    right_then : (b : Bool) → AllByRecursion KnowsThen (w.bs ++ w.f ∷ (extra b ++ w.back))
    right_then b =
        let P : Front → Type 0 = λ g. Knows lev m l (h.known g) g in
        let all : AllByRecursion P (w.bs ++ w.f ∷ w.back) = subst (AllByRecursion P) w.fronts_are h.right in
        let low : AllByRecursion KnowsThen w.bs = all_two (λ g. FrontBelow g w.f) P KnowsThen right_low w.bs around.0 (each-before P w.bs (w.f ∷ w.back) all) in
        let rest : AllByRecursion P (w.f ∷ w.back) = each-behind P w.bs (w.f ∷ w.back) all in
        let high : AllByRecursion KnowsThen w.back = all_two (λ g. FrontAbove key g) P KnowsThen right_high w.back w.above rest.1 in
        each-append KnowsThen w.bs (w.f ∷ (extra b ++ w.back)) low (nothing_known w.f kept_none, by b high)
      where
        by : (b : Bool) → AllByRecursion KnowsThen w.back → AllByRecursion KnowsThen (extra b ++ w.back)
        by true high = (nothing_known (Some key) key_unknown, high)
        by false high = high

    -- ---- all of it

    then_holds : (here : Bool) → nat_le l (lev key) ≡ here → HoldsLevel lev (with_set lev m l key d) l (split l key (here && not (is_front key w.f)) (cleared c rows))
    then_holds here is =
        let own = here && not (is_front key w.f) in
        record {
          known = kept;
          fronts = rows_then own (λ e. apart here (is_front key w.f) e) ∙ ap (map (row_at l kept)) (sym (fronts_then here is));
          right = subst (AllByRecursion KnowsThen) (sym (fronts_then here is)) (right_then own);
        }
      where
        apart : (a b : Bool) → a && not b ≡ true → b ≡ false
        apart true true e = absurd (let never = e in cc)
        apart true false e = refl
        apart false b e = absurd (let never = e in cc)

    then_sorted : (b : Bool) → IsIndex plain (split l key b (cleared c rows))
    then_sorted true = IsIndex-insert_entry plain (cell_row l (Some key) Unknown) (cleared c rows) clears.in_order
    then_sorted false = clears.in_order

    then_others : (b : Bool) (j : ℕ) → l ≢ j → rows_on j (split l key b (cleared c rows)) ≡ rows_on j rows
    then_others true j apart = inserted_other (cleared c rows) clears.in_order l (Some key) Unknown j apart ∙ clears.others j apart
    then_others false j apart = clears.others j apart

  -- a level after a write of a key is that of the map with the key set, and the other levels stay
  pub record IsTouched (new : List Row) : Type 0 where
    pub holds : HoldsLevel lev (with_set lev m l key d) l new
    pub in_order : IsIndex plain new
    pub others : (j : ℕ) → l ≢ j → rows_on j new ≡ rows_on j rows

  pub touched : (here : Bool) → here ≡ nat_le l (lev key) → (new : List Row) → Touches l key here rows new → IsTouched new
  touched here is new (c, last, new_is) =
      let w = found c last in
      let own = here && not (is_front key w.f) in
      let result : IsTouched (split l key own (cleared c rows)) = record { holds = then_holds c w here (sym is); in_order = then_sorted c w own; others = then_others c w own } in
      subst IsTouched (ap (λ f. split l key (here && not (is_front key f)) (cleared c rows)) (sym (front_is c w)) ∙ sym new_is) result
