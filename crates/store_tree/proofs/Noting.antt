-- What is known of a gap is noted, and the table still has the gaps of the map.
use Rattle.std.proofs.Common.{◌≡◌, ◌≢◌, ◌<◌, ◌≤◌, ℕ, Bool, true, false, ◌||◌, ◌==◌, if◌then◌else◌, List, [], ◌∷◌, ◌++◌, map, Some, None, refl, sym, ap, subst, ◌∙◌, ◌⊎◌, inl, inr, Ordering, Less, Equal, Greater, is_eq, is_lt, is_gt, arith}
use Rattle.std.specs.Prelude.{nat_le}
use Rattle.std.specs.List.{AllByRecursion}
use Rattle.std.specs.Cmp.Lexicographic.{nat_list_cmp_total}
use Rattle.std.proofs.lemmas.Bool.{eqb-true, eqb-false}
use Rattle.std.proofs.lemmas.List.{map-append}
use Rattle.key_order.specs.Map.{IsMap}
use Rattle.key_order.proofs.Bools.{which}
use Rattle.key_order.proofs.Orders.{turned}
use Rattle.key_order.proofs.ListParts.{each-append, each-before, each-behind}
use Rattle.merkle_tree_theory.specs.Gap.{Gap, IsAfter, IsBefore, IsInGap, is_in_gap, pairs_within}
use Rattle.merkle_tree_theory.proofs.InGaps.{test_from_in_gap}
use Rattle.sqlite_value.specs.Keys.{plain}
use Rattle.sqlite_value.specs.Order.{Row}
use Rattle.sqlite_trees.specs.Tree.{IsAscending, IsIndex, insert_entry, remove_entry}
use Rattle.store_tree.specs.Cells.{bytes_order, KeyDigests, HasKey, HoldsCells, HoldsLevel, IsBoundAt, IsGapOf, IsPageWith, IsProper, Knows, fronts_of, held_within, pairs_from}
use Rattle.store_tree.specs.Pages.{Tells}
use Rattle.store_tree.specs.Rows.{bound_bytes, cell_row, front_value, row_of_cell, rows_on, with_known}
use Rattle.store_tree.specs.declared.cell.Cell.{Cell}
use Rattle.store_tree.specs.declared.cell.Known.{Known}
use Rattle.store_tree.specs.declared.cell.Known.TheVariants.{Unknown, Nothing, Page}
use Rattle.store_tree.proofs.FrontOrder.{below_true, front_below, fronts_ascend, map_rows, middle, same_front, self_not_below}
use Rattle.store_tree.proofs.Fronts.{Front, FrontBelow}
use Rattle.store_tree.proofs.Members.{all_has, has_passing, key_has}
use Rattle.store_tree.proofs.Places.{replaced_here, replaced_other, replaced_sorted, row_at}
use Rattle.store_tree.proofs.Scanned.{IsFrontIn, bound_front}
use Rattle.store_tree.proofs.Sets.{same_key}
use Rattle.store_tree.proofs.Writing.{level_stays}

-- ---- a front has one gap

module _ (lev : List ℕ → ℕ) (m : KeyDigests) (l : ℕ) (front : Front) where
  -- a key on the level isn't in a gap of it
  not_across : (gap : Gap (List ℕ)) → IsGapOf lev m l front gap → (b : List ℕ) → IsBoundAt lev m l (Some b) → IsInGap bytes_order b gap → ⊥
  not_across gap is b (has, on) inside =
      let (d, there_is) = key_has m b has in
      let less : lev b < l = all_has (λ (p : List ℕ × List ℕ). lev p.0 < l) (pairs_within bytes_order gap m) (b, d) is.under
      (has_passing (λ k. is_in_gap bytes_order k gap) m (b, d) there_is (test_from_in_gap bytes_order b gap inside)) in
      omega (arith, less, on)

  after_front : (after : Front) (b : List ℕ) → after ≡ front → IsProper front (Some b) → IsAfter bytes_order after b
  after_front after b is low = subst (λ a. IsAfter bytes_order a b) (sym is) (by front low)
    where
      by : (f : Front) → IsProper f (Some b) → IsAfter bytes_order f b
      by None low = tt
      by (Some a) low = low

  across : (gap : Gap (List ℕ)) → IsGapOf lev m l front gap → (b : List ℕ) → IsBoundAt lev m l (Some b) → IsProper front (Some b) → IsBefore bytes_order gap.before b → ⊥
  across gap is b bound low ahead = not_across gap is b bound (after_front gap.after b is.after low, ahead)

  same_before : (g h : Gap (List ℕ)) → IsGapOf lev m l front g → IsGapOf lev m l front h → g.before ≡ h.before
  same_before g h in_g in_h = by g.before h.before refl refl
    where
      by : (a b : Front) → g.before ≡ a → h.before ≡ b → a ≡ b
      by None None e f = refl
      by None (Some b) e f = absurd (across g in_g b (subst (IsBoundAt lev m l) f in_h.before) (subst (IsProper front) f in_h.proper) (subst (λ c. IsBefore bytes_order c b) (sym e) tt))
      by (Some a) None e f = absurd (across h in_h a (subst (IsBoundAt lev m l) e in_g.before) (subst (IsProper front) e in_g.proper) (subst (λ c. IsBefore bytes_order c a) (sym f) tt))
      by (Some a) (Some b) e f = ordered (bytes_order a b) refl
        where
          ordered : (o : Ordering) → bytes_order a b ≡ o → Some a ≡ Some b
          ordered Less h_is = absurd (across h in_h a (subst (IsBoundAt lev m l) e in_g.before) (subst (IsProper front) e in_g.proper) (subst (λ c. IsBefore bytes_order c a) (sym f) (ap is_lt h_is)))
          ordered Equal h_is = ap (λ k. Some k) (same_key a b (ap is_eq h_is))
          ordered Greater h_is = absurd (across g in_g b (subst (IsBoundAt lev m l) f in_h.before) (subst (IsProper front) f in_h.proper)
              (subst (λ c. IsBefore bytes_order c b) (sym e) (turned bytes_order nat_list_cmp_total a b ∙ ap is_gt h_is)))

  pub same_gap : (g h : Gap (List ℕ)) → IsGapOf lev m l front g → IsGapOf lev m l front h → g ≡ h
  same_gap g h in_g in_h = λ i. record { after = (in_g.after ∙ sym in_h.after) i; before = same_before g h in_g in_h i }

  -- what is known of the gap of a front is all that stands in it
  pub knows_all : (k : Known) (gap : Gap (List ℕ)) → IsGapOf lev m l front gap → k ≢ Unknown → Knows lev m l k front → Tells k (held_within lev m gap)
  knows_all Unknown gap is some know = absurd (some refl)
  knows_all Nothing gap is some (other, it_is, none) = ap (held_within lev m) (same_gap gap other is it_is) ∙ none
  knows_all (Page digest count) gap is some (other, it_is, page_is) = subst (λ g. IsPageWith digest count (held_within lev m g)) (sym (same_gap gap other is it_is)) page_is

  pub all_knows : (k : Known) (gap : Gap (List ℕ)) → IsGapOf lev m l front gap → Tells k (held_within lev m gap) → Knows lev m l k front
  all_knows Unknown gap is told = absurd told
  all_knows Nothing gap is told = (gap, is, told)
  all_knows (Page digest count) gap is told = (gap, is, told)

-- ---- a cell with something else known

front_split : (ps : KeyDigests) (front : Front) → IsFrontIn ps front → (bs back : List Front) × (fronts_of ps ≡ bs ++ front ∷ back)
front_split ps None is = ([], map (λ p. Some p.0) ps, refl)
front_split ps (Some k) is = let (bs, back, e) = key_split ps is in (None ∷ bs, back, ap (λ fs. None ∷ fs) e)
  where
    key_split : (qs : KeyDigests) → HasKey qs k → (bs back : List Front) × (map (λ p. Some p.0) qs ≡ bs ++ Some k ∷ back)
    key_split [] h = absurd h
    key_split (q ∷ qs) (inl e) = ([], map (λ p. Some p.0) qs, ap (λ j. Some j ∷ map (λ p. Some p.0) qs) e)
    key_split (q ∷ qs) (inr h) = let (bs, back, e) = key_split qs h in (Some q.0 ∷ bs, back, ap (λ fs. Some q.0 ∷ fs) e)

module _ (lev : List ℕ → ℕ) (m : KeyDigests) (up : IsMap bytes_order m) (l : ℕ) (rows : List Row) (sorted : IsIndex plain rows) (h : HoldsLevel lev m l rows) (front : Front)
    (begins : IsBoundAt lev m l front) (k : Known) (knows : Knows lev m l k front) where
  abbrev ps : KeyDigests
  ps = pairs_from lev m l

  ps_up : IsMap bytes_order ps
  ps_up = map_rows (λ key. nat_le l (lev key)) m up

  parts : (bs back : List Front) × (fronts_of ps ≡ bs ++ front ∷ back)
  parts = front_split ps front (bound_front lev m l rows h front begins)

  abbrev bs : List Front
  bs = parts.0

  abbrev back : List Front
  back = parts.1

  around : AllByRecursion (λ g. FrontBelow g front) bs × AllByRecursion (λ g. FrontBelow front g) back
  around = middle FrontBelow bs front back (subst (IsAscending FrontBelow) parts.2 (fronts_ascend ps ps_up))

  abbrev kept : Front → Known
  kept g = if front_below g front || front_below front g then h.known g else k

  kept_low : (g : Front) → FrontBelow g front → kept g ≡ h.known g
  kept_low g low = rw (below_true g front low) refl

  kept_high : (g : Front) → FrontBelow front g → kept g ≡ h.known g
  kept_high g high = by (front_below g front) (front_below front g) (below_true front g high)
    where
      by : (a b : Bool) → b ≡ true → (if a || b then h.known g else k) ≡ h.known g
      by true b e = refl
      by false b e = rw e refl

  kept_here : kept front ≡ k
  kept_here = rw (self_not_below front) refl

  alike : (P : Front → Type 0) → ((g : Front) → P g → kept g ≡ h.known g) → (gs : List Front) → AllByRecursion P gs → map (row_at l h.known) gs ≡ map (row_at l kept) gs
  alike P f [] a = refl
  alike P f (g ∷ gs) a = λ i. cell_row l g (sym (f g a.0) i) ∷ alike P f gs a.1 i

  rows_are : rows_on l rows ≡ map (row_at l kept) bs ++ row_at l h.known front ∷ map (row_at l kept) back
  rows_are =
      h.fronts ∙ ap (map (row_at l h.known)) parts.2 ∙ map-append (row_at l h.known) bs (front ∷ back)
      ∙ (λ i. alike (λ g. FrontBelow g front) kept_low bs around.0 i ++ row_at l h.known front ∷ alike (λ g. FrontBelow front g) kept_high back around.1 i)

  abbrev with_it : List Row
  with_it = insert_entry plain (cell_row l front k) (remove_entry plain (row_at l h.known front) rows)

  all_right : (P : Front → Type 0) → ((g : Front) → P g → kept g ≡ h.known g) → (gs : List Front) → AllByRecursion P gs → AllByRecursion (λ g. Knows lev m l (h.known g) g) gs
      → AllByRecursion (λ g. Knows lev m l (kept g) g) gs
  all_right P f [] a b = tt
  all_right P f (g ∷ gs) a b = (subst (λ j. Knows lev m l j g) (sym (f g a.0)) b.0, all_right P f gs a.1 b.1)

  then_holds : HoldsLevel lev m l with_it
  then_holds =
      let P : Front → Type 0 = λ g. Knows lev m l (h.known g) g in
      let all : AllByRecursion P (bs ++ front ∷ back) = subst (AllByRecursion P) parts.2 h.right in
      let rest : AllByRecursion P (front ∷ back) = each-behind P bs (front ∷ back) all in
      let right : AllByRecursion (λ g. Knows lev m l (kept g) g) (bs ++ front ∷ back) =
      each-append (λ g. Knows lev m l (kept g) g) bs (front ∷ back) (all_right (λ g. FrontBelow g front) kept_low bs around.0 (each-before P bs (front ∷ back) all))
      (subst (λ j. Knows lev m l j front) (sym kept_here) knows, all_right (λ g. FrontBelow front g) kept_high back around.1 rest.1) in
      record {
        known = kept;
        fronts = replaced_here rows sorted l front kept bs back around.0 around.1 (h.known front) k rows_are
            ∙ ap (λ j. map (row_at l kept) bs ++ cell_row l front j ∷ map (row_at l kept) back) (sym kept_here)
            ∙ sym (map-append (row_at l kept) bs (front ∷ back)) ∙ ap (map (row_at l kept)) (sym parts.2);
        right = subst (AllByRecursion (λ g. Knows lev m l (kept g) g)) (sym parts.2) right;
      }

  -- the row of a cell of this front is that of the front
  made : (c : Cell) → row_at l h.known front ≡ row_of_cell c → with_it ≡ with_known c k rows
  made c is =
      let same : cell_row l front (h.known front) ≡ cell_row c.level (bound_bytes c.front) c.known = is in
      let level : l ≡ c.level = cc in
      let values : front_value front ≡ front_value (bound_bytes c.front) = cc in
      let at : front ≡ bound_bytes c.front = same_front front (bound_bytes c.front) values in
      λ i. insert_entry plain (cell_row (level i) (at i) k) (remove_entry plain (is i) rows)

  pub record IsNoted (new : List Row) : Type 0 where
    pub holds : HoldsLevel lev m l new
    pub in_order : IsIndex plain new
    pub others : (j : ℕ) → l ≢ j → rows_on j new ≡ rows_on j rows

  pub noted : (c : Cell) → row_at l h.known front ≡ row_of_cell c → IsNoted (with_known c k rows)
  noted c is =
      let result : IsNoted with_it = record { holds = then_holds; in_order = replaced_sorted rows sorted l front (h.known front) k; others = replaced_other rows sorted l front (h.known front) k } in
      subst IsNoted (made c is) result

-- so does the whole table
pub noted_cells : (lev : List ℕ → ℕ) (m : KeyDigests) (rows : List Row) (h : HoldsCells lev m rows) (sorted : IsIndex plain rows) (l : ℕ) (from : 1 ≤ l) (upto : l ≤ h.top) (front : Front)
    (begins : IsBoundAt lev m l front) (k : Known)
    → Knows lev m l k front → (c : Cell) → row_at l ((h.levels l from upto).known) front ≡ row_of_cell c → (now : HoldsCells lev m (with_known c k rows)) × (now.top ≡ h.top)
noted_cells lev m rows h sorted l from upto front begins k knows c is =
    let n = noted lev m h.ascending l rows sorted (h.levels l from upto) front begins k knows c is in (
      record {
        low = h.low;
        ascending = h.ascending;
        top = h.top;
        under = h.under;
        levels = λ j j_from j_upto. by n.holds n.others j j_from j_upto (which (l == j));
        others = λ j where_is. n.others j (apart j where_is) ∙ h.others j where_is;
      },
      refl,
    )
  where
    apart : (j : ℕ) → (j ≡ 0) ⊎ (h.top < j) → l ≢ j
    apart j (inl e) same = omega (arith, e, same, from)
    apart j (inr high) same = omega (arith, high, same, upto)

    by : HoldsLevel lev m l (with_known c k rows) → ((j : ℕ) → l ≢ j → rows_on j (with_known c k rows) ≡ rows_on j rows) → (j : ℕ) → 1 ≤ j → j ≤ h.top → ((l == j) ≡ false) ⊎ ((l == j) ≡ true)
        → HoldsLevel lev m j (with_known c k rows)
    by here others j j_from j_upto (inl e) = level_stays lev m j rows (with_known c k rows) (others j (eqb-false l j e)) (h.levels j j_from j_upto)
    by here others j j_from j_upto (inr e) = subst (λ i. HoldsLevel lev m i (with_known c k rows)) (eqb-true l j e) here
