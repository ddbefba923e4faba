-- The fronts that a scan of a level comes to.
use Rattle.std.proofs.Common.{◌≡◌, ◌≤◌, ℕ, Bool, true, false, not, ◌&&◌, if◌then◌else◌, List, [], ◌∷◌, map, filter, Some, None, refl, sym, ap, subst, ◌∙◌, inl, inr, Ordering, Less, Equal, Greater, is_lt, is_gt, arith}
use Rattle.std.specs.Prelude.{⊤, nat_le}
use Rattle.std.specs.List.{AllByRecursion}
use Rattle.std.specs.Cmp.Lexicographic.{nat_list_cmp_total}
use Rattle.std.proofs.lemmas.Cmp.{tied_itself}
use Rattle.std.proofs.lemmas.List.Elements.{filter_agree}
use Rattle.key_order.specs.Order.{Below}
use Rattle.key_order.specs.Map.{IsMap, rows_at}
use Rattle.key_order.proofs.Orders.{turned, low_is_up, not_both}
use Rattle.merkle_tree_theory.specs.Gap.{is_before, pairs_within}
use Rattle.sqlite_value.specs.Order.{Row}
use Rattle.sqlite_value.proofs.OrderLemmas.{value_cmp-Text}
use Rattle.sqlite_trees.proofs.ListLemmas.{filter-map}
use Rattle.store_tree.specs.Cells.{bytes_order, KeyDigests, HasKey, HoldsLevel, IsBoundAt, IsProper, fronts_of, pairs_from}
use Rattle.store_tree.specs.Pages.{gap_between}
use Rattle.store_tree.specs.Rows.{cell_row, is_ahead, is_from, is_level, rows_between}
use Rattle.store_tree.specs.declared.cell.Known.{Known}
use Rattle.store_tree.proofs.Fronts.{Front, first_below}
use Rattle.store_tree.proofs.Places.{filter_both, row_at, swapped}

-- whether a front is from another on
abbrev pub front_from : Front → Front → Bool
front_from None f = true
front_from (Some k) None = false
front_from (Some k) (Some a) = not (is_lt (bytes_order a k))

-- whether a front is below a bound
abbrev pub front_ahead : Front → Front → Bool
front_ahead None f = true
front_ahead (Some b) None = true
front_ahead (Some b) (Some a) = is_lt (bytes_order a b)

from_row : (l : ℕ) (front f : Front) (k : Known) → is_from front (cell_row l f k) ≡ front_from front f
from_row l None f k = refl
from_row l (Some a) None k = ap (λ o. not (is_lt o)) (first_below a)
from_row l (Some a) (Some b) k = ap (λ o. not (is_lt o)) (value_cmp-Text b a)

ahead_row : (l : ℕ) (before f : Front) (k : Known) → is_ahead before (cell_row l f k) ≡ front_ahead before f
ahead_row l None f k = refl
ahead_row l (Some a) None k = ap is_lt (first_below a)
ahead_row l (Some a) (Some b) k = ap is_lt (value_cmp-Text b a)

-- the front is absent, or a key of the pairs
abbrev pub IsFrontIn : KeyDigests → Front → Type 0
IsFrontIn ps None = ⊤
IsFrontIn ps (Some k) = HasKey ps k

abbrev pub within_scan : Front → Front → Front → Bool
within_scan front before f = front_from front f && front_ahead before f

keys_ahead : (before : Front) (ps : KeyDigests) → filter (front_ahead before) (map (λ p. Some p.0) ps) ≡ map (λ p. Some p.0) (rows_at (is_before bytes_order before) ps)
keys_ahead None [] = refl
keys_ahead None (p ∷ ps) = ap (λ fs. Some p.0 ∷ fs) (keys_ahead None ps)
keys_ahead (Some b) [] = refl
keys_ahead (Some b) (p ∷ ps) = by (is_lt (bytes_order p.0 b)) (keys_ahead (Some b) ps)
  where
    by : (c : Bool) → filter (front_ahead (Some b)) (map (λ q. Some q.0) ps) ≡ map (λ q. Some q.0) (rows_at (is_before bytes_order (Some b)) ps)
        → (if c then (Some p.0 ∷ filter (front_ahead (Some b)) (map (λ q. Some q.0) ps)) else (filter (front_ahead (Some b)) (map (λ q. Some q.0) ps)))
        ≡ map (λ q. Some q.0) (if c then (p ∷ rows_at (is_before bytes_order (Some b)) ps) else (rows_at (is_before bytes_order (Some b)) ps))
    by true e = ap (λ fs. Some p.0 ∷ fs) e
    by false e = e

-- of keys above a front, those from it on are those after it
behind_all : (k : List ℕ) (before : Front) (ps : KeyDigests) → AllByRecursion (λ p. Below bytes_order k p.0) ps
    → filter (within_scan (Some k) before) (map (λ p. Some p.0) ps) ≡ map (λ p. Some p.0) (pairs_within bytes_order (gap_between (Some k) before) ps)
behind_all k before [] a = refl
behind_all k before (p ∷ ps) a =
    rw (from_it (bytes_order p.0 k) (sym (turned bytes_order nat_list_cmp_total p.0 k) ∙ a.0))
    (rw a.0 (by (front_ahead before (Some p.0)) (is_before bytes_order before p.0) (same before) (behind_all k before ps a.1)))
  where
    from_it : (o : Ordering) → is_gt o ≡ true → not (is_lt o) ≡ true
    from_it Less h = absurd (let e = h in cc)
    from_it Equal h = absurd (let e = h in cc)
    from_it Greater h = refl

    same : (b : Front) → front_ahead b (Some p.0) ≡ is_before bytes_order b p.0
    same None = refl
    same (Some b) = refl

    by : (c d : Bool) → c ≡ d → filter (within_scan (Some k) before) (map (λ q. Some q.0) ps) ≡ map (λ q. Some q.0) (pairs_within bytes_order (gap_between (Some k) before) ps)
        → (if c then (Some p.0 ∷ filter (within_scan (Some k) before) (map (λ q. Some q.0) ps)) else (filter (within_scan (Some k) before) (map (λ q. Some q.0) ps)))
        ≡ map (λ q. Some q.0) (if d then (p ∷ pairs_within bytes_order (gap_between (Some k) before) ps) else (pairs_within bytes_order (gap_between (Some k) before) ps))
    by true true e h = ap (λ fs. Some p.0 ∷ fs) h
    by true false e h = absurd (let never = e in cc)
    by false true e h = absurd (let never = e in cc)
    by false false e h = h

keys_from : (k : List ℕ) (before : Front) (ps : KeyDigests) → IsMap bytes_order ps → HasKey ps k → IsProper (Some k) before
    → filter (within_scan (Some k) before) (map (λ p. Some p.0) ps) ≡ Some k ∷ map (λ p. Some p.0) (pairs_within bytes_order (gap_between (Some k) before) ps)
keys_from k before [] up has low = absurd has
keys_from k before (p ∷ ps) up (inl e) low =
    let here : not (is_lt (bytes_order p.0 k)) ≡ true = ap (λ o. not (is_lt o)) (subst (λ j. bytes_order p.0 j ≡ Equal) e (tied_itself nat_list_cmp_total p.0)) in
    let ahead : front_ahead before (Some p.0) ≡ true = ahead_is before low in
    let out : is_lt (bytes_order k p.0) ≡ false = ap is_lt (subst (λ j. bytes_order j p.0 ≡ Equal) e (tied_itself nat_list_cmp_total p.0)) in
    rw here (rw ahead (rw out (λ i. Some (e i) ∷ behind_all k before ps (subst (λ j. AllByRecursion (λ q. Below bytes_order j q.0) ps) e up.0) i)))
  where
    ahead_is : (b : Front) → IsProper (Some k) b → front_ahead b (Some p.0) ≡ true
    ahead_is None l = refl
    ahead_is (Some b) l = subst (λ j. is_lt (bytes_order j b) ≡ true) (sym e) l
keys_from k before (p ∷ ps) up (inr h) low =
    let less : Below bytes_order p.0 k = under ps up.0 h in
    let out : not (is_lt (bytes_order p.0 k)) ≡ false = ap not less in
    let not_after : is_lt (bytes_order k p.0) ≡ false =
    isn't (is_lt (bytes_order k p.0)) (λ more. not_both bytes_order nat_list_cmp_total p.0 k (low_is_up bytes_order nat_list_cmp_total p.0 k less) more) in
    rw out (rw not_after (keys_from k before ps up.1 h low))
  where
    under : (qs : KeyDigests) → AllByRecursion (λ q. Below bytes_order p.0 q.0) qs → HasKey qs k → Below bytes_order p.0 k
    under [] a h = absurd h
    under (q ∷ qs) a (inl e) = subst (λ j. Below bytes_order p.0 j) e a.0
    under (q ∷ qs) a (inr h) = under qs a.1 h

    isn't : (b : Bool) → (b ≡ true → ⊥) → b ≡ false
    isn't true f = absurd (f refl)
    isn't false f = refl

-- the fronts from one on and below a bound are that one and the keys between
pub fronts_from : (front before : Front) (ps : KeyDigests) → IsMap bytes_order ps → IsFrontIn ps front → IsProper front before
    → filter (within_scan front before) (fronts_of ps) ≡ front ∷ map (λ p. Some p.0) (pairs_within bytes_order (gap_between front before) ps)
fronts_from None before ps up is low = rw (first before) (ap (λ fs. None ∷ fs) (keys_ahead before ps))
  where
    first : (b : Front) → front_ahead b None ≡ true
    first None = refl
    first (Some b) = refl
fronts_from (Some k) before ps up is low = keys_from k before ps up is low

module _ (lev : List ℕ → ℕ) (m : KeyDigests) (l : ℕ) (rows : List Row) (h : HoldsLevel lev m l rows) where
  -- a bound on a level is a front of it
  pub bound_front : (front : Front) → IsBoundAt lev m l front → IsFrontIn (pairs_from lev m l) front
  bound_front None is = tt
  bound_front (Some k) (has, on) = passing m has
    where
      to_le : (a b : ℕ) → a ≤ b → nat_le a b ≡ true
      to_le a b e = grind arith

      passing : (qs : KeyDigests) → HasKey qs k → HasKey (rows_at (λ key. nat_le l (lev key)) qs) k
      passing [] a = absurd a
      passing (q ∷ qs) (inl e) = rw (to_le l (lev q.0) (subst (λ j. l ≤ lev j) (sym e) on)) (inl e)
      passing (q ∷ qs) (inr a) = by (nat_le l (lev q.0)) (passing qs a)
        where
          by : (b : Bool) → HasKey (rows_at (λ key. nat_le l (lev key)) qs) k → HasKey (if b then (q ∷ rows_at (λ key. nat_le l (lev key)) qs) else (rows_at (λ key. nat_le l (lev key)) qs)) k
          by true f = inr f
          by false f = f

  -- the rows of a scan are those of the fronts that it comes to
  pub scanned_rows : (front before : Front) → IsMap bytes_order (pairs_from lev m l) → IsBoundAt lev m l front → IsProper front before
      → rows_between l front before rows ≡ map (row_at l h.known) (front ∷ map (λ p. Some p.0) (pairs_within bytes_order (gap_between front before) (pairs_from lev m l)))
  scanned_rows front before up begins low =
      let test : Row → Bool = λ row. is_from front row && is_ahead before row in
      sym (filter_both (is_level l) test rows) ∙ swapped (is_level l) test rows ∙ ap (filter test) h.fronts ∙ filter-map test (row_at l h.known) (fronts_of (pairs_from lev m l))
      ∙ ap (map (row_at l h.known)) (filter_agree (λ f. test (row_at l h.known f)) (within_scan front before) (λ f. λ i. from_row l front f (h.known f) i && ahead_row l before f (h.known f) i)
      (fronts_of (pairs_from lev m l))
      ∙ fronts_from front before (pairs_from lev m l) up (bound_front front begins) low)
