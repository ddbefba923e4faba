-- A table of cells has the gaps of a map with a key set, after each of its levels was touched.
use Rattle.std.proofs.Common.{◌≡◌, ◌≢◌, ◌<◌, ◌≤◌, ◌+◌, ◌-◌, ℕ, zero, suc, true, false, List, [], ◌∷◌, map, None, refl, sym, ap, subst, ◌∙◌, ◌⊎◌, inl, inr, Ordering, Less, Equal, Greater, arith}
use Rattle.std.specs.Prelude.{⊤, nat_le, max}
use Rattle.std.specs.List.{AllByRecursion}
use Rattle.std.specs.Ordering.{match_ordering}
use Rattle.std.specs.Cmp.Lexicographic.{nat_list_cmp_total}
use Rattle.key_order.specs.Map.{set}
use Rattle.key_order.proofs.Bools.{which}
use Rattle.key_order.proofs.Sets.{ascending_set}
use Rattle.sqlite_value.specs.Keys.{plain}
use Rattle.sqlite_value.specs.Order.{Row}
use Rattle.sqlite_trees.specs.Tree.{IsIndex, insert_entry}
use Rattle.sqlite_trees.proofs.TreeLemmas.{IsIndex-insert_entry}
use Rattle.store_tree.specs.Calls.{WritesKey}
use Rattle.store_tree.specs.Cells.{bytes_order, KeyDigests, AreUnder, HoldsCells, HoldsLevel, fronts_of, pairs_from}
use Rattle.store_tree.specs.Rows.{IsTop, cell_row, rows_on, with_levels}
use Rattle.store_tree.specs.Touches.{Touches, TouchesUpto}
use Rattle.store_tree.specs.declared.cell.Known.TheVariants.{Unknown}
use Rattle.store_tree.proofs.Places.{inserted_here, inserted_other}
use Rattle.store_tree.proofs.Touching.{touched}

-- a level whose rows stay holds what it held
pub level_stays : (lev : List ℕ → ℕ) (m : KeyDigests) (l : ℕ) (old new : List Row) → rows_on l new ≡ rows_on l old → HoldsLevel lev m l old → HoldsLevel lev m l new
level_stays lev m l old new same h = record { known = h.known; fronts = same ∙ h.fronts; right = h.right }

pub le_is : (a b : ℕ) → nat_le a b ≡ true → a ≤ b
le_is a b e = grind arith

pub le_not : (a b : ℕ) → nat_le a b ≡ false → b < a
le_not a b e = grind arith

not_le : (a b : ℕ) → a < b → nat_le b a ≡ false
not_le a b low = grind arith

-- no pair is on a level that all are under
none_from : (lev : List ℕ → ℕ) (m : KeyDigests) (top l : ℕ) → AreUnder lev top m → top ≤ l → pairs_from lev m l ≡ []
none_from lev [] top l under low = refl
none_from lev (p ∷ ps) top l under low = rw (not_le (lev p.0) l (omega (arith, under.0, low))) (none_from lev ps top l under.1 low)

-- the top of a table is that of its gaps
pub top_is : (lev : List ℕ → ℕ) (m : KeyDigests) (rows : List Row) (h : HoldsCells lev m rows) (top : ℕ) → IsTop rows top → h.top ≡ top
top_is lev m rows h top is = by (less_or_more h.top top) is.there
  where
    less_or_more : (a b : ℕ) → (a ≡ b) ⊎ ((a < b) ⊎ (b < a))
    less_or_more a b = by_tests (which (nat_le a b)) (which (nat_le b a))
      where
        by_tests : (nat_le a b ≡ false) ⊎ (nat_le a b ≡ true) → (nat_le b a ≡ false) ⊎ (nat_le b a ≡ true) → (a ≡ b) ⊎ ((a < b) ⊎ (b < a))
        by_tests (inl e) t = inr (inr (le_not a b e))
        by_tests (inr e) (inl f) = inr (inl (le_not b a f))
        by_tests (inr e) (inr f) = inl (omega (arith, le_is a b e, le_is b a f))

    by : (h.top ≡ top) ⊎ ((h.top < top) ⊎ (top < h.top)) → (top ≡ 0) ⊎ (rows_on top rows ≡ [] → ⊥) → h.top ≡ top
    by (inl same) t = same
    by (inr (inl less)) (inl zero_is) = absurd (omega (arith, less, zero_is))
    by (inr (inl less)) (inr some) = absurd (some (h.others top (inr less)))
    by (inr (inr more)) t = absurd
        (let never : cell_row h.top None ((h.levels h.top (omega (arith, more)) (omega arith)).known None) ∷ _ ≡ [] = sym (h.levels h.top (omega (arith, more)) (omega arith)).fronts
        ∙ is.above h.top more in cc)

-- a key under a level is set among pairs that are
pub set_under : (lev : List ℕ → ℕ) (top : ℕ) (key d : List ℕ) (ps : KeyDigests) → AreUnder lev top ps → lev key < top → AreUnder lev top (set bytes_order ps key d)
set_under lev top key d [] a low = (low, tt)
set_under lev top key d (p ∷ ps) a low = by (bytes_order key p.0) (set_under lev top key d ps a.1 low)
  where
    by : (o : Ordering) → AreUnder lev top (set bytes_order ps key d) → AreUnder lev top (match_ordering o ((key, d) ∷ p ∷ ps) ((p.0, d) ∷ ps) (p ∷ set bytes_order ps key d))
    by Less f = (low, a)
    by Equal f = a
    by Greater f = (a.0, f)

-- a level above the others has one gap
module _ (lev : List ℕ → ℕ) (m : KeyDigests) where
  pub record HasGrown (top : ℕ) (rows : List Row) : Type 0 where
    pub holds : HoldsCells lev m rows
    pub top_is : holds.top ≡ top
    pub in_order : IsIndex plain rows

  one_level : (top : ℕ) (rows : List Row) → HasGrown top rows → HasGrown (suc top) (insert_entry plain (cell_row (suc top) None Unknown) rows)
  one_level top rows g =
      let h = g.holds in
      let under : AreUnder lev top m = subst (λ t. AreUnder lev t m) g.top_is h.under in
      record {
        holds = record {
          low = h.low;
          ascending = h.ascending;
          top = suc top;
          under = weaker m under;
          levels = λ l from upto. level l from upto (which (nat_le l top));
          others = λ l where_is. inserted_other rows g.in_order (suc top) None Unknown l (apart l where_is) ∙ h.others l (outside l where_is);
        };
        top_is = refl;
        in_order = IsIndex-insert_entry plain (cell_row (suc top) None Unknown) rows g.in_order;
      }
    where
      new : List Row
      new = insert_entry plain (cell_row (suc top) None Unknown) rows

      weaker : (ps : KeyDigests) → AreUnder lev top ps → AreUnder lev (suc top) ps
      weaker [] a = tt
      weaker (p ∷ ps) a = (omega (arith, a.0), weaker ps a.1)

      apart : (l : ℕ) → (l ≡ 0) ⊎ (suc top < l) → suc top ≢ l
      apart l (inl e) same = omega (arith, e, same)
      apart l (inr low) same = omega (arith, low, same)

      outside : (l : ℕ) → (l ≡ 0) ⊎ (suc top < l) → (l ≡ 0) ⊎ (g.holds.top < l)
      outside l (inl e) = inl e
      outside l (inr low) = inr (omega (arith, low, g.top_is))

      last : HoldsLevel lev m (suc top) new
      last =
          let none : pairs_from lev m (suc top) ≡ [] = none_from lev m top (suc top) (subst (λ t. AreUnder lev t m) g.top_is g.holds.under) (omega arith) in
          let empty : rows_on (suc top) rows ≡ [] = g.holds.others (suc top) (inr (omega (arith, g.top_is))) in
          record {
            known = λ f. Unknown;
            fronts = inserted_here rows g.in_order (suc top) None (λ f. Unknown) [] [] tt tt Unknown empty ∙ ap (λ ps. map (λ f. cell_row (suc top) f Unknown) (fronts_of ps)) (sym none);
            right = subst (λ ps. AllByRecursion (λ f. ⊤) (fronts_of ps)) (sym none) (tt, tt);
          }

      level : (l : ℕ) → 1 ≤ l → l ≤ suc top → (nat_le l top ≡ false) ⊎ (nat_le l top ≡ true) → HoldsLevel lev m l new
      level l from upto (inl e) =
          let high : top < l = le_not l top e in
          let same : suc top ≡ l = omega (arith, high, upto) in
          subst (λ k. HoldsLevel lev m k new) same last
      level l from upto (inr e) =
          let low : l ≤ top = le_is l top e in
          level_stays lev m l rows new (inserted_other rows g.in_order (suc top) None Unknown l (λ same. omega (arith, same, low))) (g.holds.levels l from (omega (arith, low, g.top_is)))

  pub grows : (top : ℕ) (rows : List Row) → HasGrown top rows → (n : ℕ) → HasGrown (top + n) (with_levels top n rows)
  grows top rows g zero = subst (λ t. HasGrown t rows) (more top) g
    where
      more : (t : ℕ) → t ≡ t + 0
      more t = omega arith
  grows top rows g (suc n) = subst (λ t. HasGrown t (with_levels top (suc n) rows)) (more top n) (one_level (top + n) (with_levels top n rows) (grows top rows g n))
    where
      more : (t k : ℕ) → suc (t + k) ≡ t + suc k
      more t k = omega arith

  module _ (key d : List ℕ) (mid : List Row) (top : ℕ) (g : HasGrown top mid) where
    abbrev then_map : KeyDigests
    then_map = set bytes_order m key d

    -- the levels up to one have the gaps of the map with the key set
    record IsWritten (upto : ℕ) (rows : List Row) : Type 0 where
      in_order : IsIndex plain rows
      done : (l : ℕ) → 1 ≤ l → l ≤ upto → HoldsLevel lev then_map l rows
      rest : (l : ℕ) → (l ≡ 0) ⊎ (upto < l) → rows_on l rows ≡ rows_on l mid

    next_level : (upto : ℕ) (rows new : List Row) → suc upto ≤ top → IsWritten upto rows → Touches (suc upto) key (nat_le (suc upto) (lev key)) rows new → IsWritten (suc upto) new
    next_level upto rows new low w touches =
        let before : HoldsLevel lev m (suc upto) rows =
        level_stays lev m (suc upto) mid rows (w.rest (suc upto) (inr (omega arith))) (g.holds.levels (suc upto) (omega arith) (omega (arith, low, g.top_is))) in
        let t = touched lev m g.holds.ascending (suc upto) key d rows w.in_order before (nat_le (suc upto) (lev key)) refl new touches in
        record {
          in_order = t.in_order;
          done = λ l from most. by t.holds t.others l from most (which (nat_le l upto));
          rest = λ l where_is. t.others l (apart l where_is) ∙ w.rest l (outside l where_is);
        }
      where
        apart : (l : ℕ) → (l ≡ 0) ⊎ (suc upto < l) → suc upto ≢ l
        apart l (inl e) same = omega (arith, e, same)
        apart l (inr high) same = omega (arith, high, same)

        outside : (l : ℕ) → (l ≡ 0) ⊎ (suc upto < l) → (l ≡ 0) ⊎ (upto < l)
        outside l (inl e) = inl e
        outside l (inr high) = inr (omega (arith, high))

        by : HoldsLevel lev then_map (suc upto) new → ((j : ℕ) → suc upto ≢ j → rows_on j new ≡ rows_on j rows) → (l : ℕ) → 1 ≤ l → l ≤ suc upto → (nat_le l upto ≡ false) ⊎ (nat_le l upto ≡ true)
            → HoldsLevel lev then_map l new
        by here others l from most (inl e) =
            let high : upto < l = le_not l upto e in
            let same : suc upto ≡ l = omega (arith, high, most) in
            subst (λ k. HoldsLevel lev then_map k new) same here
        by here others l from most (inr e) =
            let less : l ≤ upto = le_is l upto e in
            level_stays lev then_map l rows new (others l (λ same. omega (arith, same, less))) (w.done l from less)

    writes : (upto : ℕ) (new : List Row) → upto ≤ top → TouchesUpto key (lev key) upto mid new → IsWritten upto new
    writes zero new low same =
        record {
          in_order = subst (IsIndex plain) (sym same) g.in_order;
          done = λ l from most. absurd (omega (arith, from, most));
          rest = λ l where_is. ap (rows_on l) same;
        }
    writes (suc upto) new low (rows, sooner, touches) = next_level upto rows new low (writes upto rows (omega (arith, low)) sooner) touches

    all_written : (new : List Row) → lev key < top → TouchesUpto key (lev key) top mid new → HoldsCells lev then_map new
    all_written new low touches =
        let w = writes top new (omega arith) touches in
        record {
          low = g.holds.low;
          ascending = ascending_set bytes_order nat_list_cmp_total m key d g.holds.ascending;
          top = top;
          under = set_under lev top key d m (subst (λ t. AreUnder lev t m) g.top_is g.holds.under) low;
          levels = w.done;
          others = λ l where_is. w.rest l where_is ∙ g.holds.others l (outside l where_is);
        }
      where
        outside : (l : ℕ) → (l ≡ 0) ⊎ (top < l) → (l ≡ 0) ⊎ (g.holds.top < l)
        outside l (inl e) = inl e
        outside l (inr high) = inr (omega (arith, high, g.top_is))

-- a key on this level is set, where the table has levels up to one above it and each was touched
pub key_set : (level : ℕ) (key : List ℕ) (old new : List Row) (top n : ℕ) → IsIndex plain old → IsTop old top → level < top + n → TouchesUpto key level (top + n) (with_levels top n old) new
    → WritesKey level key old new
key_set level key old new top n sorted is low touches lev m d h on =
    let first : HasGrown lev m top old = record { holds = h; top_is = top_is lev m old h top is; in_order = sorted } in
    all_written lev m key d (with_levels top n old) (top + n) (grows lev m top old first n) new (omega (arith, low, on))
    (subst (λ l. TouchesUpto key l (top + n) (with_levels top n old) new) (sym on) touches)

-- one level more above the others
pub one_more : (top level : ℕ) (rows mid new : List Row) → top ≤ level → mid ≡ with_levels top (level - top) rows → new ≡ insert_entry plain (cell_row (level + 1) None Unknown) mid
    → new ≡ with_levels top (level + 1 - top) rows
one_more top level rows mid new from was put =
    let next : level + 1 - top ≡ suc (level - top) = omega (arith, from) in
    let number : level + 1 ≡ suc (top + (level - top)) = omega (arith, from) in
    put ∙ (λ i. insert_entry plain (cell_row (number i) None Unknown) (was i)) ∙ ap (λ n. with_levels top n rows) (sym next)

-- the levels of the table, and one above the key's where there are fewer
pub all_levels : (level top upto : ℕ) (key : List ℕ) (old mid new : List Row) → IsIndex plain old → IsTop old top → upto ≡ max top (level + 1) → mid ≡ with_levels top (upto - top) old
    → TouchesUpto key level upto mid new → WritesKey level key old new
all_levels level top upto key old mid new sorted is high grown touches =
    let whole : upto ≡ top + (upto - top) = grind (arith, high) in
    let low : level < top + (upto - top) = grind (arith, high) in
    key_set level key old new top (upto - top) sorted is low
    (subst (λ n. TouchesUpto key level n (with_levels top (upto - top) old) new) whole (subst (λ rows. TouchesUpto key level upto rows new) grown touches))
