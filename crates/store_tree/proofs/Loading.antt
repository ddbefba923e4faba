-- A table of cells that knows nothing has the gaps of a map with a key set, after a gap began above the key on each of its levels.
use Rattle.std.proofs.Common.{◌≡◌, ◌≢◌, ◌<◌, ◌≤◌, ◌+◌, ◌-◌, ℕ, zero, suc, Bool, true, false, if◌then◌else◌, List, [], ◌∷◌, map, filter, Some, None, refl, sym, ap, subst, ◌∙◌, ◌⊎◌, inl, inr, Ordering, Less, Equal, Greater, is_eq, is_lt, is_gt, arith}
use Rattle.std.specs.Prelude.{⊤, nat_le, max}
use Rattle.std.specs.List.{AllByRecursion}
use Rattle.std.specs.Ordering.{match_ordering}
use Rattle.std.specs.Cmp.Lexicographic.{nat_list_cmp_total}
use Rattle.std.proofs.lemmas.Cmp.{tied_itself}
use Rattle.key_order.specs.Map.{IsMap, set}
use Rattle.key_order.specs.Order.{AnyByRecursion, Below}
use Rattle.key_order.proofs.Bools.{which}
use Rattle.key_order.proofs.Orders.{turned}
use Rattle.key_order.proofs.Sets.{ascending_set}
use Rattle.sqlite_value.specs.Order.{Row, column}
use Rattle.sqlite_value.specs.Keys.{plain, entry_cmp}
use Rattle.sqlite_value.proofs.KeyLemmas.{entry_cmp_total}
use Rattle.sqlite_trees.specs.Tree.{IsIndex, insert_entry}
use Rattle.sqlite_trees.proofs.ListLemmas.{all_of, all-filter}
use Rattle.sqlite_trees.proofs.TreeLemmas.{IsIndex-insert_entry}
use Rattle.store_tree.specs.Cells.{bytes_order, KeyDigests, HoldsCells, HoldsLevel, AreUnder, fronts_of, pairs_from}
use Rattle.store_tree.specs.Loads.{AddsKey, HoldsNoKeys, KnowsNothing}
use Rattle.store_tree.specs.Rows.{IsTop, cell_row, is_level, known_value, rows_on, with_front, with_fronts, with_levels}
use Rattle.store_tree.specs.declared.cell.Known.TheVariants.{Unknown}
use Rattle.store_tree.proofs.FrontOrder.{unknown_known}
use Rattle.store_tree.proofs.Fronts.{Front}
use Rattle.store_tree.proofs.Places.{inserted_among, inserted_other, on_own, rows_order, rows_turned}
use Rattle.store_tree.proofs.Sets.{same_key, set_own, set_other}
use Rattle.store_tree.proofs.Writing.{HasGrown, grows, le_is, le_not, set_under, top_is}

-- ---- a row more

-- nothing is known of the gap of a row
abbrev IsUnknown : Row → Type 0
IsUnknown row = column row 2 ≡ known_value Unknown

all_insert : (P : Row → Type 0) (new : Row) (es : List Row) → P new → AllByRecursion P es → AllByRecursion P (insert_entry plain new es)
all_insert P new [] p a = (p, tt)
all_insert P new (e ∷ es) p a = by (entry_cmp plain e new) (all_insert P new es p a.1)
  where
    by : (o : Ordering) → AllByRecursion P (insert_entry plain new es) → AllByRecursion P (match_ordering o (e ∷ insert_entry plain new es) (e ∷ es) (new ∷ e ∷ es))
    by Less f = (a.0, f)
    by Equal f = a
    by Greater f = (p, a)

any_insert : (P : Row → Type 0) (new : Row) (es : List Row) → AnyByRecursion P es → AnyByRecursion P (insert_entry plain new es)
any_insert P new [] h = absurd h
any_insert P new (e ∷ es) h = by (entry_cmp plain e new) h (any_insert P new es)
  where
    by : (o : Ordering) → AnyByRecursion P (e ∷ es) → (AnyByRecursion P es → AnyByRecursion P (insert_entry plain new es))
        → AnyByRecursion P (match_ordering o (e ∷ insert_entry plain new es) (e ∷ es) (new ∷ e ∷ es))
    by Less (inl p) more = inl p
    by Less (inr h) more = inr (more h)
    by Equal h more = h
    by Greater h more = inr h

any_passes : (test : Row → Bool) (rows : List Row) → AnyByRecursion (λ row. test row ≡ true) rows → filter test rows ≡ [] → ⊥
any_passes test [] h none = h
any_passes test (row ∷ rows) h none = by (test row) refl h none (any_passes test rows)
  where
    by : (b : Bool) → test row ≡ b → (test row ≡ true) ⊎ AnyByRecursion (λ r. test r ≡ true) rows → (if b then (row ∷ filter test rows) else (filter test rows)) ≡ []
        → (AnyByRecursion (λ r. test r ≡ true) rows → filter test rows ≡ [] → ⊥) → ⊥
    by true e h none more = absurd (let never = none in cc)
    by false e (inl t) none more = absurd (let never : false ≡ true = sym e ∙ t in cc)
    by false e (inr h) none more = more h none

-- a row of which nothing is known, among rows of which nothing is
pub one_unknown : (l : ℕ) (f : Front) (rows : List Row) → KnowsNothing rows → KnowsNothing (insert_entry plain (cell_row l f Unknown) rows)
one_unknown l f rows h = record {
  first = any_insert (λ row. is_level 1 row ≡ true) (cell_row l f Unknown) rows h.first;
  unknown = all_insert IsUnknown (cell_row l f Unknown) rows refl h.unknown;
}

pub levels_unknown : (top n : ℕ) (rows : List Row) → KnowsNothing rows → KnowsNothing (with_levels top n rows)
levels_unknown top zero rows h = h
levels_unknown top (suc n) rows h = one_unknown (suc (top + n)) None (with_levels top n rows) (levels_unknown top n rows h)

pub fronts_unknown : (key : List ℕ) (upto : ℕ) (rows : List Row) → KnowsNothing rows → KnowsNothing (with_fronts key upto rows)
fronts_unknown key zero rows h = h
fronts_unknown key (suc upto) rows h = one_unknown (suc upto) (Some key) (with_fronts key upto rows) (fronts_unknown key upto rows h)

-- ---- a level of which nothing is known

abbrev pub bare : ℕ → Front → Row
bare l f = cell_row l f Unknown

-- the rows of a level are those of the map's fronts, with nothing known
abbrev pub IsBare : (List ℕ → ℕ) → ℕ → KeyDigests → List Row → Type 0
IsBare lev l m rows = rows_on l rows ≡ map (bare l) (fronts_of (pairs_from lev m l))

pub bare_from : (lev : List ℕ → ℕ) (m : KeyDigests) (l : ℕ) (rows : List Row) → AllByRecursion IsUnknown rows → HoldsLevel lev m l rows → IsBare lev l m rows
bare_from lev m l rows all h = h.fronts ∙ alike (fronts_of (pairs_from lev m l)) (subst (AllByRecursion IsUnknown) h.fronts (all-filter IsUnknown (is_level l) rows all))
  where
    alike : (fs : List Front) → AllByRecursion IsUnknown (map (λ f. cell_row l f (h.known f)) fs) → map (λ f. cell_row l f (h.known f)) fs ≡ map (bare l) fs
    alike [] a = refl
    alike (f ∷ fs) a = λ i. cell_row l f (unknown_known (h.known f) a.0 i) ∷ alike fs a.1 i

pub holds_bare : (lev : List ℕ → ℕ) (m : KeyDigests) (l : ℕ) (rows : List Row) → IsBare lev l m rows → HoldsLevel lev m l rows
holds_bare lev m l rows is = record { known = λ f. Unknown; fronts = is; right = all_of (λ f. ⊤) (λ f. tt) (fronts_of (pairs_from lev m l)) }

-- a level above that of a key stays where the key is set
bare_above : (lev : List ℕ → ℕ) (m : KeyDigests) (l : ℕ) (key d : List ℕ) (rows : List Row) → nat_le l (lev key) ≡ false → IsBare lev l m rows → IsBare lev l (set bytes_order m key d) rows
bare_above lev m l key d rows off is = is ∙ ap (λ ps. map (bare l) (fronts_of ps)) (sym (set_other (λ k. nat_le l (lev k)) m key d off))

insert_after : (e new : Row) (es : List Row) → entry_cmp plain e new ≡ Less → insert_entry plain new (e ∷ es) ≡ e ∷ insert_entry plain new es
insert_after e new es h = rw h refl

insert_same : (e new : Row) (es : List Row) → entry_cmp plain e new ≡ Equal → insert_entry plain new (e ∷ es) ≡ e ∷ es
insert_same e new es h = rw h refl

insert_before : (e new : Row) (es : List Row) → entry_cmp plain e new ≡ Greater → insert_entry plain new (e ∷ es) ≡ new ∷ e ∷ es
insert_before e new es h = rw h refl

-- the row of a key's front is put where the key is set among the pairs of a level
module _ (l : ℕ) (key d : List ℕ) where
  abbrev row_of : List ℕ → Row
  row_of k = bare l (Some k)

  abbrev own_rows : KeyDigests → List Row
  own_rows ps = map (bare l) (map (λ p. Some p.0) ps)

  put_own : (ps : KeyDigests) → insert_entry plain (row_of key) (own_rows ps) ≡ own_rows (set bytes_order ps key d)
  put_own [] = refl
  put_own (p ∷ ps) = by (bytes_order key p.0) refl (put_own ps)
    where
      by : (o : Ordering) → bytes_order key p.0 ≡ o → insert_entry plain (row_of key) (own_rows ps) ≡ own_rows (set bytes_order ps key d)
          → insert_entry plain (row_of key) (row_of p.0 ∷ own_rows ps) ≡ own_rows (match_ordering o ((key, d) ∷ p ∷ ps) ((p.0, d) ∷ ps) (p ∷ set bytes_order ps key d))
      by Less e more = insert_before (row_of p.0) (row_of key) (own_rows ps) (rows_turned l (Some key) (Some p.0) Unknown Unknown (ap is_lt e))
      by Equal e more =
          let same : key ≡ p.0 = same_key key p.0 (ap is_eq e) in
          insert_same (row_of p.0) (row_of key) (own_rows ps) (subst (λ k. entry_cmp plain (row_of k) (row_of key) ≡ Equal) same (tied_itself (entry_cmp_total plain) (row_of key)))
      by Greater e more =
          let low : Below bytes_order p.0 key = turned bytes_order nat_list_cmp_total key p.0 ∙ ap is_gt e in
          insert_after (row_of p.0) (row_of key) (own_rows ps) (rows_order l (Some p.0) (Some key) Unknown Unknown low) ∙ ap (λ es. row_of p.0 ∷ es) more

  put_bare : (ps : KeyDigests) → insert_entry plain (row_of key) (map (bare l) (fronts_of ps)) ≡ map (bare l) (fronts_of (set bytes_order ps key d))
  put_bare ps = insert_after (bare l None) (row_of key) (own_rows ps) (rows_order l None (Some key) Unknown Unknown tt) ∙ ap (λ es. bare l None ∷ es) (put_own ps)

  bare_here : (lev : List ℕ → ℕ) (m : KeyDigests) (rows : List Row) → IsMap bytes_order m → IsIndex plain rows → nat_le l (lev key) ≡ true → IsBare lev l m rows
      → IsBare lev l (set bytes_order m key d) (with_front l key rows)
  bare_here lev m rows up sorted on is =
      inserted_among rows sorted l (Some key) Unknown ∙ ap (insert_entry plain (row_of key)) is ∙ put_bare (pairs_from lev m l)
      ∙ ap (λ ps. map (bare l) (fronts_of ps)) (sym (set_own (λ k. nat_le l (lev k)) m key d up on))

-- ---- a key more

module _ (lev : List ℕ → ℕ) (m : KeyDigests) (key d : List ℕ) (mid : List Row) (top : ℕ) (g : HasGrown lev m top mid) (un : AllByRecursion IsUnknown mid) where
  abbrev then_map : KeyDigests
  then_map = set bytes_order m key d

  -- the levels up to one have the gaps of the map with the key set
  record IsBegun (upto : ℕ) (rows : List Row) : Type 0 where
    in_order : IsIndex plain rows
    done : (l : ℕ) → 1 ≤ l → l ≤ upto → IsBare lev l then_map rows
    rest : (l : ℕ) → (l ≡ 0) ⊎ (upto < l) → rows_on l rows ≡ rows_on l mid

  bare_mid : (l : ℕ) → 1 ≤ l → l ≤ top → IsBare lev l m mid
  bare_mid l from upto = bare_from lev m l mid un (g.holds.levels l from (omega (arith, upto, g.top_is)))

  next : (upto : ℕ) (rows : List Row) → suc upto ≤ lev key → suc upto ≤ top → IsBegun upto rows → IsBegun (suc upto) (with_front (suc upto) key rows)
  next upto rows on low b =
      record {
        in_order = IsIndex-insert_entry plain (cell_row (suc upto) (Some key) Unknown) rows b.in_order;
        done = λ l from most. by l from most (which (nat_le l upto));
        rest = λ l where_is. inserted_other rows b.in_order (suc upto) (Some key) Unknown l (apart l where_is) ∙ b.rest l (outside l where_is);
      }
    where
      apart : (l : ℕ) → (l ≡ 0) ⊎ (suc upto < l) → suc upto ≢ l
      apart l (inl e) same = omega (arith, e, same)
      apart l (inr high) same = omega (arith, high, same)

      outside : (l : ℕ) → (l ≡ 0) ⊎ (suc upto < l) → (l ≡ 0) ⊎ (upto < l)
      outside l (inl e) = inl e
      outside l (inr high) = inr (omega (arith, high))

      own : nat_le (suc upto) (lev key) ≡ true
      own = is_le (suc upto) (lev key) on
        where
          is_le : (a b : ℕ) → a ≤ b → nat_le a b ≡ true
          is_le a b low = grind arith

      here : IsBare lev (suc upto) then_map (with_front (suc upto) key rows)
      here = bare_here (suc upto) key d lev m rows g.holds.ascending b.in_order own (b.rest (suc upto) (inr (omega arith)) ∙ bare_mid (suc upto) (omega arith) low)

      by : (l : ℕ) → 1 ≤ l → l ≤ suc upto → (nat_le l upto ≡ false) ⊎ (nat_le l upto ≡ true) → IsBare lev l then_map (with_front (suc upto) key rows)
      by l from most (inl e) =
          let high : upto < l = le_not l upto e in
          let same : suc upto ≡ l = omega (arith, high, most) in
          subst (λ k. IsBare lev k then_map (with_front (suc upto) key rows)) same here
      by l from most (inr e) =
          let less : l ≤ upto = le_is l upto e in
          inserted_other rows b.in_order (suc upto) (Some key) Unknown l (λ same. omega (arith, same, less)) ∙ b.done l from less

  begun : (upto : ℕ) → upto ≤ lev key → upto ≤ top → IsBegun upto (with_fronts key upto mid)
  begun zero on low = record { in_order = g.in_order; done = λ l from most. absurd (omega (arith, from, most)); rest = λ l where_is. refl }
  begun (suc upto) on low = next upto (with_fronts key upto mid) on low (begun upto (omega (arith, on)) (omega (arith, low)))

  all_begun : lev key < top → HoldsCells lev then_map (with_fronts key (lev key) mid)
  all_begun low =
      let b = begun (lev key) (omega arith) (omega (arith, low)) in
      record {
        low = g.holds.low;
        ascending = ascending_set bytes_order nat_list_cmp_total m key d g.holds.ascending;
        top = top;
        under = set_under lev top key d m (subst (λ t. AreUnder lev t m) g.top_is g.holds.under) low;
        levels = λ l from upto. holds_bare lev then_map l (with_fronts key (lev key) mid) (level b l from upto (which (nat_le l (lev key))));
        others = λ l where_is. b.rest l (outside l where_is) ∙ g.holds.others l (beyond l where_is);
      }
    where
      outside : (l : ℕ) → (l ≡ 0) ⊎ (top < l) → (l ≡ 0) ⊎ (lev key < l)
      outside l (inl e) = inl e
      outside l (inr high) = inr (omega (arith, high, low))

      beyond : (l : ℕ) → (l ≡ 0) ⊎ (top < l) → (l ≡ 0) ⊎ (g.holds.top < l)
      beyond l (inl e) = inl e
      beyond l (inr high) = inr (omega (arith, high, g.top_is))

      level : IsBegun (lev key) (with_fronts key (lev key) mid) → (l : ℕ) → 1 ≤ l → l ≤ top → (nat_le l (lev key) ≡ false) ⊎ (nat_le l (lev key) ≡ true)
          → IsBare lev l then_map (with_fronts key (lev key) mid)
      level b l from upto (inl e) = b.rest l (inr (le_not l (lev key) e)) ∙ bare_above lev m l key d mid e (bare_mid l from upto)
      level b l from upto (inr e) = b.done l from (le_is l (lev key) e)

-- a key on this level is set, where the table has levels up to one above it and a gap began above it on each up to its own
pub adds_key : (level top upto : ℕ) (key : List ℕ) (old mid new : List Row) → IsIndex plain old → IsTop old top → upto ≡ max top (level + 1) → mid ≡ with_levels top (upto - top) old
    → new ≡ with_fronts key level mid → AddsKey level key old new
adds_key level top upto key old mid new sorted is high grown begun unknown lev m d h on =
    let first : HasGrown lev m top old = record { holds = h; top_is = top_is lev m old h top is; in_order = sorted } in
    let more : HasGrown lev m (top + (upto - top)) mid = subst (HasGrown lev m (top + (upto - top))) (sym grown) (grows lev m top old first (upto - top)) in
    let none : KnowsNothing mid = subst KnowsNothing (sym grown) (levels_unknown top (upto - top) old unknown) in
    let low : level < top + (upto - top) = grind (arith, high) in
    let made : with_fronts key (lev key) mid ≡ new = ap (λ n. with_fronts key n mid) on ∙ sym begun in
    subst (HoldsCells lev (set bytes_order m key d)) made (all_begun lev m key d mid (top + (upto - top)) more none.unknown (omega (arith, low, on)))

-- one gap more above the key
pub front_more : (key : List ℕ) (level : ℕ) (rows mid new : List Row) → mid ≡ with_fronts key level rows → new ≡ with_front (level + 1) key mid → new ≡ with_fronts key (level + 1) rows
front_more key level rows mid new was put =
    let number : level + 1 ≡ suc level = omega arith in
    put ∙ (λ i. with_front (number i) key (was i)) ∙ ap (λ n. with_fronts key n rows) (sym number)

-- nothing is known after it
pub adds_unknown : (level top n : ℕ) (key : List ℕ) (old mid new : List Row) → mid ≡ with_levels top n old → new ≡ with_fronts key level mid → KnowsNothing old → KnowsNothing new
adds_unknown level top n key old mid new grown begun h = subst KnowsNothing (sym begun) (fronts_unknown key level mid (subst KnowsNothing (sym grown) (levels_unknown top n old h)))

-- a key on level 0 begins no gap
pub adds_low : (level : ℕ) (key : List ℕ) (rows : List Row) → level ≡ 0 → AddsKey level key rows rows
adds_low level key rows zero_is unknown lev m d h on =
    record {
      low = h.low;
      ascending = ascending_set bytes_order nat_list_cmp_total m key d h.ascending;
      top = h.top;
      under = set_under lev h.top key d m h.under (some h.top refl);
      levels = λ l from upto. holds_bare lev (set bytes_order m key d) l rows (bare_above lev m l key d rows (off l from) (bare_from lev m l rows unknown.unknown (h.levels l from upto)));
      others = h.others;
    }
  where
    off : (l : ℕ) → 1 ≤ l → nat_le l (lev key) ≡ false
    off l from = by (which (nat_le l (lev key)))
      where
        by : (nat_le l (lev key) ≡ false) ⊎ (nat_le l (lev key) ≡ true) → nat_le l (lev key) ≡ false
        by (inl e) = e
        by (inr e) = let less : l ≤ lev key = le_is l (lev key) e in absurd (omega (arith, from, less, on, zero_is))

    some : (top : ℕ) → h.top ≡ top → lev key < top
    some zero e = absurd (any_passes (is_level 1) rows unknown.first (h.others 1 (inr (omega (arith, e)))))
    some (suc top) e = omega (arith, on, zero_is)

-- ---- no key

first_level : HoldsNoKeys (with_levels 0 1 [])
first_level lev low =
    let none : HasGrown lev [] 0 [] =
    record { holds = record { low = low; ascending = tt; top = 0; under = tt; levels = λ l from upto. absurd (omega (arith, from, upto)); others = λ l other. refl }; top_is = refl; in_order = tt } in
    (grows lev [] 0 [] none 1).holds

pub no_keys : (mid new : List Row) → mid ≡ [] → new ≡ with_levels 0 1 mid → HoldsNoKeys new
no_keys mid new none is = subst HoldsNoKeys (sym (is ∙ ap (with_levels 0 1) none)) first_level

pub no_keys_unknown : (mid new : List Row) → mid ≡ [] → new ≡ with_levels 0 1 mid → KnowsNothing new
no_keys_unknown mid new none is = subst KnowsNothing (sym (is ∙ ap (with_levels 0 1) none)) (record { first = inl (on_own 1 None Unknown); unknown = (refl, tt) })
