-- A row is put at its place among those of a level.
use Rattle.std.proofs.Common.{◌≡◌, ◌≢◌, ℕ, pos, Bool, true, false, not, ◌&&◌, if◌then◌else◌, List, [], ◌∷◌, ◌++◌, map, filter, Some, None, refl, sym, ap, subst, ◌∙◌, ◌⊎◌, inl, inr, Ordering, Less, Equal, Greater, is_eq, arith}
use Rattle.std.specs.List.{AllByRecursion}
use Rattle.std.specs.Ordering.{int_cmp, ordering_then, ordering_reverse, match_ordering}
use Rattle.std.proofs.lemmas.Cmp.{tied_itself}
use Rattle.std.proofs.lemmas.List.Elements.{filter_agree, filter_passes, recursion_from_All}
use Rattle.key_order.proofs.Bools.{which, is_equal, is_less}
use Rattle.key_order.proofs.Orders.{compare-same}
use Rattle.sqlite_value.specs.declared.value.Value.{Value}
use Rattle.sqlite_value.specs.declared.value.Value.TheVariants.{Int}
use Rattle.sqlite_value.specs.Order.{Row, column, value_cmp}
use Rattle.sqlite_value.specs.Keys.{plain, entry_cmp}
use Rattle.sqlite_value.proofs.KeyLemmas.{first_key-plain, entry_cmp_total, then_tied}
use Rattle.sqlite_value.proofs.OrderLemmas.{value_cmp_total, value_cmp-Int, value_cmp-Text}
use Rattle.sqlite_trees.specs.Tree.{IsIndex, insert_entry, remove_entry}
use Rattle.sqlite_trees.proofs.ListLemmas.{all_weaker, ascending-filter, filter_all}
use Rattle.sqlite_trees.proofs.TreeLemmas.{IsIndex-insert_entry}
use Rattle.store_tree.specs.Cells.{bytes_order}
use Rattle.store_tree.specs.Rows.{cell_row, count_value, front_value, known_value, is_level, rows_on}
use Rattle.store_tree.specs.declared.cell.Known.{Known}
use Rattle.store_tree.proofs.Fronts.{Front, first_below, FrontBelow}

-- ---- the order of rows

columns : (a b c d : Value) (r s : Row) → entry_cmp plain (a ∷ b ∷ r) (c ∷ d ∷ s) ≡ ordering_then (value_cmp a c) (ordering_then (value_cmp b d) (entry_cmp plain r s))
columns a b c d r s = rw first_key-plain refl

fronts_order : (f g : Front) → FrontBelow f g → value_cmp (front_value f) (front_value g) ≡ Less
fronts_order None None h = absurd h
fronts_order None (Some b) h = first_below b
fronts_order (Some a) None h = absurd h
fronts_order (Some a) (Some b) h = value_cmp-Text a b ∙ is_less (bytes_order a b) h

-- rows of one level are in the order of their fronts
pub rows_order : (l : ℕ) (f g : Front) (k j : Known) → FrontBelow f g → entry_cmp plain (cell_row l f k) (cell_row l g j) ≡ Less
rows_order l f g k j h =
    columns (Int (pos l)) (front_value f) (Int (pos l)) (front_value g) (known_value k ∷ count_value k ∷ []) (known_value j ∷ count_value j ∷ [])
    ∙ rw (tied_itself value_cmp_total (Int (pos l)), fronts_order f g h) refl

pub rows_turned : (l : ℕ) (f g : Front) (k j : Known) → FrontBelow f g → entry_cmp plain (cell_row l g j) (cell_row l f k) ≡ Greater
rows_turned l f g k j h = (entry_cmp_total plain).antisymm (cell_row l g j) (cell_row l f k) ∙ ap ordering_reverse (rows_order l f g k j h)

same_number : (m n : ℕ) → is_eq (int_cmp (pos m) (pos n)) ≡ true → m ≡ n
same_number m n h = grind arith

-- a row is on its own level alone
pub on_own : (l : ℕ) (f : Front) (k : Known) → is_level l (cell_row l f k) ≡ true
on_own l f k = ap is_eq (tied_itself value_cmp_total (Int (pos l)))

pub level_of_row : (l j : ℕ) (f : Front) (k : Known) → is_level j (cell_row l f k) ≡ true → l ≡ j
level_of_row l j f k h = same_number l j (ap is_eq (sym (value_cmp-Int (pos l) (pos j))) ∙ h)

not_other : (l j : ℕ) (f : Front) (k : Known) → l ≢ j → is_level j (cell_row l f k) ≡ false
not_other l j f k apart = by (which (is_level j (cell_row l f k)))
  where
    by : (is_level j (cell_row l f k) ≡ false) ⊎ (is_level j (cell_row l f k) ≡ true) → is_level j (cell_row l f k) ≡ false
    by (inl h) = h
    by (inr h) = absurd (apart (level_of_row l j f k h))

-- a row that is tied with another is on its level
ties_level : (l : ℕ) (f : Front) (k : Known) (e : Row) → entry_cmp plain e (cell_row l f k) ≡ Equal → is_level l e ≡ true
ties_level l f k [] h = absurd (let never = h in cc)
ties_level l f k (v ∷ e) h =
    ap is_eq (then_tied (value_cmp v (Int (pos l))) (entry_cmp plain e (front_value f ∷ known_value k ∷ count_value k ∷ [])) (subst (λ o. o ≡ Equal) (rw first_key-plain refl) h)).0

-- ---- an entry among others

beyond : (e f new : Row) → entry_cmp plain e new ≡ Greater → entry_cmp plain e f ≡ Less → entry_cmp plain f new ≡ Greater
beyond e f new h k =
    let total = entry_cmp_total plain in
    let low : entry_cmp plain new e ≡ Less = total.antisymm new e ∙ ap ordering_reverse h in
    total.antisymm f new ∙ ap ordering_reverse (total.trans new e f low k)

insert_front : (new : Row) (es : List Row) → AllByRecursion (λ e. entry_cmp plain e new ≡ Greater) es → insert_entry plain new es ≡ new ∷ es
insert_front new [] a = refl
insert_front new (e ∷ es) a = rw a.0 refl

insert_between : (new : Row) (xs ys : List Row) → AllByRecursion (λ e. entry_cmp plain e new ≡ Less) xs → AllByRecursion (λ e. entry_cmp plain e new ≡ Greater) ys
    → insert_entry plain new (xs ++ ys) ≡ xs ++ new ∷ ys
insert_between new [] ys a b = insert_front new ys b
insert_between new (x ∷ xs) ys a b = rw a.0 (ap (λ es. x ∷ es) (insert_between new xs ys a.1 b))

remove_between : (old : Row) (xs ys : List Row) → AllByRecursion (λ e. entry_cmp plain e old ≡ Less) xs → AllByRecursion (λ e. entry_cmp plain e old ≡ Greater) ys
    → remove_entry plain old (xs ++ old ∷ ys) ≡ xs ++ ys
remove_between old [] ys a b =
    rw (tied_itself (entry_cmp_total plain) old)
    (filter_all (λ e. not (is_eq (entry_cmp plain e old))) ys (all_weaker (λ e. entry_cmp plain e old ≡ Greater) (λ e. not (is_eq (entry_cmp plain e old)) ≡ true) (λ e h. rw h refl) ys b))
remove_between old (x ∷ xs) ys a b = rw a.0 (ap (λ es. x ∷ es) (remove_between old xs ys a.1 b))

all_filter : {X : Type 0} (P : X → Type 0) (test : X → Bool) (xs : List X) → AllByRecursion P xs → AllByRecursion P (filter test xs)
all_filter P test [] a = tt
all_filter {X} P test (x ∷ xs) a = by (test x) (all_filter P test xs a.1)
  where
    by : (b : Bool) → AllByRecursion P (filter test xs) → AllByRecursion P (if b then (x ∷ filter test xs) else (filter test xs))
    by true f = (a.0, f)
    by false f = f

-- what passes a test of an entry put in place is the entry put in place among what passes
filter_insert : (test : Row → Bool) (new : Row) (es : List Row) → IsIndex plain es → test new ≡ true → ((e : Row) → entry_cmp plain e new ≡ Equal → test e ≡ true)
    → filter test (insert_entry plain new es) ≡ insert_entry plain new (filter test es)
filter_insert test new [] up t ties = rw t refl
filter_insert test new (e ∷ es) up t ties = by (entry_cmp plain e new) refl (which (test e)) (filter_insert test new es up.1 t ties)
  where
    by : (o : Ordering) → entry_cmp plain e new ≡ o → (test e ≡ false) ⊎ (test e ≡ true) → filter test (insert_entry plain new es) ≡ insert_entry plain new (filter test es)
        → filter test (match_ordering o (e ∷ insert_entry plain new es) (e ∷ es) (new ∷ e ∷ es)) ≡ insert_entry plain new (filter test (e ∷ es))
    by Less h (inl k) f = rw k f
    by Less h (inr k) f = rw k (rw h (ap (λ xs. e ∷ xs) f))
    by Equal h (inl k) f = absurd (let never : true ≡ false = sym (ties e h) ∙ k in cc)
    by Equal h (inr k) f = rw k (rw h refl)
    by Greater h k f =
        let a : AllByRecursion (λ x. entry_cmp plain x new ≡ Greater) (e ∷ es) =
        (h, all_weaker (λ x. entry_cmp plain e x ≡ Less) (λ x. entry_cmp plain x new ≡ Greater) (λ x low. beyond e x new h low) es up.0) in
        rw t (sym (insert_front new (filter test (e ∷ es)) (all_filter (λ x. entry_cmp plain x new ≡ Greater) test (e ∷ es) a)))

-- an entry that doesn't pass a test, put in place, changes nothing of what does
pub filter_insert_other : (test : Row → Bool) (new : Row) (es : List Row) → test new ≡ false → filter test (insert_entry plain new es) ≡ filter test es
filter_insert_other test new [] t = rw t refl
filter_insert_other test new (e ∷ es) t = by (entry_cmp plain e new) (filter_insert_other test new es t)
  where
    by : (o : Ordering) → filter test (insert_entry plain new es) ≡ filter test es → filter test (match_ordering o (e ∷ insert_entry plain new es) (e ∷ es) (new ∷ e ∷ es)) ≡ filter test (e ∷ es)
    by Less f = ap (λ xs. if (test e) then (e ∷ xs) else xs) f
    by Equal f = refl
    by Greater f = rw t refl

pub filter_both : {X : Type 0} (p q : X → Bool) (xs : List X) → filter p (filter q xs) ≡ filter (λ x. p x && q x) xs
filter_both p q [] = refl
filter_both {X} p q (x ∷ xs) = by (q x) (p x) refl refl (filter_both p q xs)
  where
    by : (b c : Bool) → q x ≡ b → p x ≡ c → filter p (filter q xs) ≡ filter (λ x. p x && q x) xs → filter p (filter q (x ∷ xs)) ≡ filter (λ x. p x && q x) (x ∷ xs)
    by true true e f h = rw (e, f) (ap (λ ys. x ∷ ys) h)
    by true false e f h = rw (e, f) h
    by false true e f h = rw (e, f) h
    by false false e f h = rw (e, f) h

-- two tests, in either order
pub swapped : {X : Type 0} (p q : X → Bool) (xs : List X) → filter p (filter q xs) ≡ filter q (filter p xs)
swapped {X} p q xs = filter_both p q xs ∙ filter_agree (λ x. p x && q x) (λ x. q x && p x) (λ x. turn (p x) (q x)) xs ∙ sym (filter_both q p xs)
  where
    turn : (a b : Bool) → a && b ≡ b && a
    turn true true = refl
    turn true false = refl
    turn false true = refl
    turn false false = refl

-- ---- the rows of a level

module _ (l : ℕ) (known : Front → Known) where
  abbrev pub row_at : Front → Row
  row_at f = cell_row l f (known f)

  lower_rows : (f : Front) (k : Known) (fs : List Front) → AllByRecursion (λ g. FrontBelow g f) fs → AllByRecursion (λ e. entry_cmp plain e (cell_row l f k) ≡ Less) (map row_at fs)
  lower_rows f k [] a = tt
  lower_rows f k (g ∷ fs) a = (rows_order l g f (known g) k a.0, lower_rows f k fs a.1)

  higher_rows : (f : Front) (k : Known) (fs : List Front) → AllByRecursion (λ g. FrontBelow f g) fs → AllByRecursion (λ e. entry_cmp plain e (cell_row l f k) ≡ Greater) (map row_at fs)
  higher_rows f k [] a = tt
  higher_rows f k (g ∷ fs) a = (rows_turned l f g k (known g) a.0, higher_rows f k fs a.1)

module _ (rows : List Row) (sorted : IsIndex plain rows) (l : ℕ) (f : Front) where
  abbrev removed : Known → List Row
  removed k = remove_entry plain (cell_row l f k) rows

  removed_sorted : (k : Known) → IsIndex plain (removed k)
  removed_sorted k = ascending-filter (λ a b. entry_cmp plain a b ≡ Less) (λ e. not (is_eq (entry_cmp plain e (cell_row l f k)))) rows sorted

  -- the rows of another level stay
  removed_other : (k : Known) (j : ℕ) → l ≢ j → rows_on j (removed k) ≡ rows_on j rows
  removed_other k j apart =
      let test : Row → Bool = λ e. not (is_eq (entry_cmp plain e (cell_row l f k))) in
      swapped (is_level j) test rows
      ∙ filter_all test (rows_on j rows)
      (all_weaker (λ e. is_level j e ≡ true) (λ e. test e ≡ true) (λ e on. by e (entry_cmp plain e (cell_row l f k)) refl on) (rows_on j rows)
      (recursion_from_All _ _ (filter_passes (is_level j) rows)))
    where
      two : (v : Value) → is_eq (value_cmp v (Int (pos l))) ≡ true → is_eq (value_cmp v (Int (pos j))) ≡ true → ⊥
      two v a b =
          let same : value_cmp v (Int (pos j)) ≡ value_cmp (Int (pos l)) (Int (pos j)) =
          compare-same value_cmp value_cmp_total v (Int (pos l)) (Int (pos j)) (Int (pos j)) (is_equal (value_cmp v (Int (pos l))) a) (tied_itself value_cmp_total (Int (pos j))) in
          apart (same_number l j (ap is_eq (sym (value_cmp-Int (pos l) (pos j))) ∙ ap is_eq (sym same) ∙ b))

      by : (e : Row) (o : Ordering) → entry_cmp plain e (cell_row l f k) ≡ o → is_level j e ≡ true → not (is_eq o) ≡ true
      by e Less h on = refl
      by e Equal h on = absurd (two (column e 0) (ties_level l f k e h) on)
      by e Greater h on = refl

  -- another row in place of one
  pub replaced_sorted : (k n : Known) → IsIndex plain (insert_entry plain (cell_row l f n) (removed k))
  replaced_sorted k n = IsIndex-insert_entry plain (cell_row l f n) (removed k) (removed_sorted k)

  pub replaced_other : (k n : Known) (j : ℕ) → l ≢ j → rows_on j (insert_entry plain (cell_row l f n) (removed k)) ≡ rows_on j rows
  replaced_other k n j apart = filter_insert_other (is_level j) (cell_row l f n) (removed k) (not_other l j f n apart) ∙ removed_other k j apart

  module _ (known : Front → Known) (bs back : List Front) (low : AllByRecursion (λ g. FrontBelow g f) bs) (high : AllByRecursion (λ g. FrontBelow f g) back) where
    pub replaced_here : (k n : Known) → rows_on l rows ≡ map (row_at l known) bs ++ cell_row l f k ∷ map (row_at l known) back
        → rows_on l (insert_entry plain (cell_row l f n) (removed k)) ≡ map (row_at l known) bs ++ cell_row l f n ∷ map (row_at l known) back
    replaced_here k n is =
        filter_insert (is_level l) (cell_row l f n) (removed k) (removed_sorted k) (on_own l f n) (ties_level l f n)
        ∙ ap (insert_entry plain (cell_row l f n)) (swapped (is_level l) (λ e. not (is_eq (entry_cmp plain e (cell_row l f k)))) rows ∙ ap (remove_entry plain (cell_row l f k)) is
        ∙ remove_between (cell_row l f k) (map (row_at l known) bs) (map (row_at l known) back) (lower_rows l known f k bs low) (higher_rows l known f k back high))
        ∙ insert_between (cell_row l f n) (map (row_at l known) bs) (map (row_at l known) back) (lower_rows l known f n bs low) (higher_rows l known f n back high)

    pub inserted_here : (n : Known) → rows_on l rows ≡ map (row_at l known) bs ++ map (row_at l known) back
        → rows_on l (insert_entry plain (cell_row l f n) rows) ≡ map (row_at l known) bs ++ cell_row l f n ∷ map (row_at l known) back
    inserted_here n is =
        filter_insert (is_level l) (cell_row l f n) rows sorted (on_own l f n) (ties_level l f n) ∙ ap (insert_entry plain (cell_row l f n)) is
        ∙ insert_between (cell_row l f n) (map (row_at l known) bs) (map (row_at l known) back) (lower_rows l known f n bs low) (higher_rows l known f n back high)

  -- the rows of its level are those with it put at its place
  pub inserted_among : (n : Known) → rows_on l (insert_entry plain (cell_row l f n) rows) ≡ insert_entry plain (cell_row l f n) (rows_on l rows)
  inserted_among n = filter_insert (is_level l) (cell_row l f n) rows sorted (on_own l f n) (ties_level l f n)

  pub inserted_other : (n : Known) (j : ℕ) → l ≢ j → rows_on j (insert_entry plain (cell_row l f n) rows) ≡ rows_on j rows
  inserted_other n j apart = filter_insert_other (is_level j) (cell_row l f n) rows (not_other l j f n apart)
