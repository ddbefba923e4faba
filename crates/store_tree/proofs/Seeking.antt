-- A seek in the table of cells comes to the rows of a level.
use Rattle.std.proofs.Common.{◌≡◌, ◌<◌, ℕ, pos, Bool, true, false, not, ◌&&◌, List, [], ◌∷◌, ◌++◌, filter, reverse, append-nil, Option, Some, None, refl, sym, ap, subst, ◌∙◌, inl, inr, Ordering, Less, Equal, Greater, is_lt, is_gt, is_eq, arith}
use Rattle.std.specs.List.{AllByRecursion}
use Rattle.std.specs.Ordering.{int_cmp}
use Rattle.std.proofs.lemmas.List.Elements.{filter_agree, filter-append, filter_passes, recursion_from_All}
use Rattle.std.proofs.lemmas.List.{reverse-reverse, reverse-append}
use Rattle.key_order.proofs.ListParts.{each-append, each-at, each-behind}
use Rattle.sqlite_value.specs.declared.value.Value.TheVariants.{Int, Text}
use Rattle.sqlite_value.specs.Order.{Row, column, value_cmp}
use Rattle.sqlite_value.specs.Keys.{plain, prefix_cmp}
use Rattle.sqlite_value.proofs.KeyLemmas.{first_key-plain}
use Rattle.sqlite_value.proofs.OrderLemmas.{then-Equal, value_cmp-Int, value_cmp-Null}
use Rattle.sqlite_trees.specs.Tree.{IsAscending, IsIndex, from_key, up_to_key}
use Rattle.sqlite_trees.proofs.ListLemmas.{all_weaker, ascending-filter, filter_none}
use Rattle.sqlite_trees.proofs.TreeLemmas.{AtMost, IsSortedTree, prefix_cmp-one, prefix_cmp_follows, sorted_index, from_key-filter, up_to_key-filter}
use Rattle.store_file.specs.Walks.{GivesRow}
use Rattle.store_tree.specs.Rows.{IsTop, bound_bytes, row_of_cell, is_level, is_from, is_ahead, is_upto, rows_between, rows_on, rows_upto, start_row}
use Rattle.store_tree.specs.Tables.{GivesLast}
use Rattle.store_tree.specs.declared.cell.Cell.{Cell}
use Rattle.store_tree.proofs.Places.{filter_both, on_own}

equal : (o : Ordering) → is_eq o ≡ true → o ≡ Equal
equal Less h = absurd (let k = h in cc)
equal Equal h = refl
equal Greater h = absurd (let k = h in cc)

-- a comparison with a level alone is that of the first column
level_column : (row : Row) (l : ℕ) → prefix_cmp plain row (Int (pos l) ∷ []) ≡ value_cmp (column row 0) (Int (pos l))
level_column [] l = sym (value_cmp-Null (Int (pos l)))
level_column (v ∷ row) l = prefix_cmp-one v row (Int (pos l))

no_level : (l : ℕ) → is_level l [] ≡ true → ⊥
no_level l h = absurd (let never : false ≡ true = ap is_eq (sym (value_cmp-Null (Int (pos l)))) ∙ h in cc)

above : (o : Ordering) → not (is_lt o) ≡ true → is_eq o ≡ false → is_gt o ≡ true
above Less h k = absurd (let e = h in cc)
above Equal h k = absurd (let e = k in cc)
above Greater h k = refl

not_equal : (o : Ordering) → is_gt o ≡ true → is_eq o ≡ false
not_equal Less h = absurd (let e = h in cc)
not_equal Equal h = absurd (let e = h in cc)
not_equal Greater h = refl

not_both : (b : Bool) → (b ≡ true → ⊥) → b ≡ false
not_both true h = absurd (h refl)
not_both false h = refl

both : (a b : Bool) → a && b ≡ true → (a ≡ true) × (b ≡ true)
both true b e = (refl, e)
both false b e = absurd (cc)

-- of the rows of a level, a comparison with a level and a key is that of the second column
key_column : (row : Row) (l : ℕ) (b : List ℕ) → is_level l row ≡ true → is_lt (prefix_cmp plain row (Int (pos l) ∷ Text b ∷ [])) ≡ is_lt (value_cmp (column row 1) (Text b))
key_column [] l b h = absurd (no_level l h)
key_column (v ∷ []) l b h = rw (first_key-plain, equal (value_cmp v (Int (pos l))) h, value_cmp-Null (Text b)) refl
key_column (v ∷ (w ∷ row)) l b h = rw (first_key-plain, equal (value_cmp v (Int (pos l))) h) (ap is_lt (then-Equal (value_cmp w (Text b))))

upto_column : (row : Row) (l : ℕ) (b : List ℕ) → is_level l row ≡ true → is_gt (prefix_cmp plain row (Int (pos l) ∷ Text b ∷ [])) ≡ is_gt (value_cmp (column row 1) (Text b))
upto_column [] l b h = absurd (no_level l h)
upto_column (v ∷ []) l b h = rw (first_key-plain, equal (value_cmp v (Int (pos l))) h, value_cmp-Null (Text b)) refl
upto_column (v ∷ (w ∷ row)) l b h = rw (first_key-plain, equal (value_cmp v (Int (pos l))) h) (ap is_gt (then-Equal (value_cmp w (Text b))))

-- ---- a scan from a front on

module _ (l : ℕ) (front : Option (List ℕ)) where
  abbrev not_low : Row → Bool
  not_low row = not (is_lt (prefix_cmp plain row (start_row l front)))

on_level : (l : ℕ) (front : Option (List ℕ)) (row : Row) → is_level l row ≡ true → not_low l front row ≡ is_from front row
on_level l None row h = rw (level_column row l, equal (value_cmp (column row 0) (Int (pos l))) h) refl
on_level l (Some k) row h = ap not (key_column row l k h)

-- a row that is not below the start is not below its level
not_below : (l : ℕ) (front : Option (List ℕ)) (row : Row) → not_low l front row ≡ true → not_low l None row ≡ true
not_below l None row h = h
not_below l (Some k) [] h = absurd (let e = h in cc)
not_below l (Some k) (v ∷ row) h = rw (level_column (v ∷ row) l) (by (value_cmp v (Int (pos l))) refl)
  where
    by : (o : Ordering) → value_cmp v (Int (pos l)) ≡ o → not (is_lt o) ≡ true
    by Less e = absurd (let never : not_low l (Some k) (v ∷ row) ≡ false = rw (first_key-plain, e) refl in let k = sym never ∙ h in cc)
    by Equal e = refl
    by Greater e = refl

module _ (l : ℕ) (front before : Option (List ℕ)) (rows : List Row) (up : IsIndex plain rows) where
  abbrev given : List Row
  given = from_key plain (start_row l front) rows

  given_is : given ≡ filter (not_low l front) rows
  given_is = from_key-filter plain (start_row l front) rows (sorted_index plain rows up)

  abbrev within : Row → Bool
  within row = is_level l row && is_ahead before row

  agrees : (row : Row) → is_level l row && (is_from front row && is_ahead before row) ≡ within row && not_low l front row
  agrees row = by (is_level l row) (is_ahead before row) refl
    where
      by : (a b : Bool) → is_level l row ≡ a → a && (is_from front row && b) ≡ (a && b) && not_low l front row
      by true true h = turn (is_from front row) ∙ sym (on_level l front row h)
        where
          turn : (c : Bool) → c && true ≡ c
          turn true = refl
          turn false = refl
      by true false h = none (is_from front row)
        where
          none : (c : Bool) → c && false ≡ false
          none true = refl
          none false = refl
      by false b h = refl

  -- the rows of a scan are those that the seek gives and that are within it
  pub between_given : rows_between l front before rows ≡ filter within given
  between_given =
      filter_agree (λ row. is_level l row && (is_from front row && is_ahead before row)) (λ row. within row && not_low l front row) agrees rows
      ∙ sym (filter_both within (not_low l front) rows) ∙ ap (filter within) (sym given_is)

  module _ (seen : List Row) (row : Row) (left : List Row) (is : given ≡ seen ++ row ∷ left) where
    passed : AllByRecursion (λ r. not_low l front r ≡ true) (row ∷ left)
    passed = each-behind (λ r. not_low l front r ≡ true) seen (row ∷ left)
        (subst (AllByRecursion (λ r. not_low l front r ≡ true)) (sym given_is ∙ is)
        (recursion_from_All (λ r. not_low l front r ≡ true) (filter (not_low l front) rows) (filter_passes (not_low l front) rows)))

    sorted_behind : (xs : List Row) → IsSortedTree plain (xs ++ row ∷ left) → IsSortedTree plain (row ∷ left)
    sorted_behind [] s = s
    sorted_behind (x ∷ xs) s = sorted_behind xs s.1

    sorted : IsSortedTree plain (row ∷ left)
    sorted = sorted_behind seen (subst (IsSortedTree plain) (sym given_is ∙ is) (ascending-filter (AtMost plain) (not_low l front) rows (sorted_index plain rows up)))

    off_level : is_level l row ≡ false → AllByRecursion (λ r. within r ≡ false) left
    off_level h =
        let high : is_gt (prefix_cmp plain row (Int (pos l) ∷ [])) ≡ true = above (prefix_cmp plain row (Int (pos l) ∷ [])) (not_below l front row passed.0) (ap is_eq (level_column row l) ∙ h) in
        all_weaker (λ r. AtMost plain row r) (λ r. within r ≡ false)
        (λ r most. ap (λ b. b && is_ahead before r)
        (ap is_eq (sym (level_column r l)) ∙ not_equal (prefix_cmp plain r (Int (pos l) ∷ [])) ((prefix_cmp_follows plain (Int (pos l) ∷ []) row r most).1 high))) left sorted.0

    off_bound : (b : List ℕ) → is_level l row ≡ true → is_ahead (Some b) row ≡ false → AllByRecursion (λ r. is_level l r && is_ahead (Some b) r ≡ false) left
    off_bound b h k = all_weaker (λ r. AtMost plain row r) (λ r. is_level l r && is_ahead (Some b) r ≡ false) (λ r most. by r most (is_level l r) refl) left sorted.0
      where
        by : (r : Row) → AtMost plain row r → (c : Bool) → is_level l r ≡ c → c && is_ahead (Some b) r ≡ false
        by r most false e = refl
        by r most true e =
            let key : Row = Int (pos l) ∷ Text b ∷ [] in
            not_both (is_ahead (Some b) r) (λ ahead.
            let low : is_lt (prefix_cmp plain row key) ≡ true = (prefix_cmp_follows plain key row r most).0 (key_column r l b e ∙ ahead) in
            let never : true ≡ false = sym low ∙ key_column row l b h ∙ k in cc)

    -- at the first row that isn't within a scan, it has no more
    pub stopped : within row ≡ false → filter within (row ∷ left) ≡ []
    stopped h = filter_none within (row ∷ left) (h, by (is_level l row) refl before refl h)
      where
        by : (a : Bool) → is_level l row ≡ a → (b : Option (List ℕ)) → before ≡ b → a && is_ahead b row ≡ false → AllByRecursion (λ r. within r ≡ false) left
        by false e b same k = off_level e
        by true e None same k = absurd (let never = k in cc)
        by true e (Some b) same k = subst (λ c. AllByRecursion (λ r. is_level l r && is_ahead c r ≡ false) left) (sym same) (off_bound b e k)

-- ---- the last row up to a key

under : (o : Ordering) → not (is_gt o) ≡ true → is_eq o ≡ false → is_lt o ≡ true
under Less h k = refl
under Equal h k = absurd (let e = k in cc)
under Greater h k = absurd (let e = h in cc)

not_tied : (o : Ordering) → is_lt o ≡ true → is_eq o ≡ false
not_tied Less h = refl
not_tied Equal h = absurd (let e = h in cc)
not_tied Greater h = absurd (let e = h in cc)

ascending-middle : {X : Type 0} (R : X → X → Type 0) (xs : List X) (x : X) (ys : List X) → IsAscending R (xs ++ x ∷ ys) → AllByRecursion (λ y. R y x) xs
ascending-middle R [] x ys up = tt
ascending-middle R (y ∷ xs) x ys up = (each-at (R y) xs x ys up.0, ascending-middle R xs x ys up.1)

module _ (l : ℕ) (k : List ℕ) (rows : List Row) (up : IsIndex plain rows) where
  abbrev end_row : Row
  end_row = start_row l (Some k)

  abbrev not_high : Row → Bool
  not_high row = not (is_gt (prefix_cmp plain row end_row))

  abbrev part : List Row
  part = up_to_key plain end_row rows

  is_part : part ≡ filter not_high rows
  is_part = up_to_key-filter plain end_row rows (sorted_index plain rows up)

  same_tests : (row : Row) → is_level l row && not_high row ≡ is_level l row && is_upto k row
  same_tests row = by (is_level l row) refl
    where
      by : (b : Bool) → is_level l row ≡ b → b && not_high row ≡ b && is_upto k row
      by true h = ap not (upto_column row l k h)
      by false h = refl

  upto_part : rows_upto l k rows ≡ filter (is_level l) part
  upto_part = sym (filter_agree (λ row. is_level l row && not_high row) (λ row. is_level l row && is_upto k row) same_tests rows) ∙ sym (filter_both (is_level l) not_high rows)
      ∙ ap (filter (is_level l)) (sym is_part)

  module _ (row : Row) (left : List Row) (is : reverse part ≡ row ∷ left) where
    ends_with : part ≡ reverse left ++ row ∷ []
    ends_with = sym (reverse-reverse part) ∙ ap reverse is ∙ reverse-append (row ∷ []) left

    last_here : is_level l row ≡ true → rows_upto l k rows ≡ filter (is_level l) (reverse left) ++ row ∷ []
    last_here h = upto_part ∙ ap (filter (is_level l)) ends_with ∙ filter-append (is_level l) (reverse left) (row ∷ []) ∙ rw h refl

    passing : AllByRecursion (λ r. not_high r ≡ true) (reverse left ++ row ∷ [])
    passing = subst (AllByRecursion (λ r. not_high r ≡ true)) (sym is_part ∙ ends_with) (recursion_from_All (λ r. not_high r ≡ true) (filter not_high rows) (filter_passes not_high rows))

    in_order : IsSortedTree plain (reverse left ++ row ∷ [])
    in_order = subst (IsSortedTree plain) (sym is_part ∙ ends_with) (ascending-filter (AtMost plain) not_high rows (sorted_index plain rows up))

    level_low : (r : Row) → not_high r ≡ true → is_level l r ≡ false → is_lt (prefix_cmp plain r (Int (pos l) ∷ [])) ≡ true
    level_low r passes other = under (prefix_cmp plain r (Int (pos l) ∷ [])) (not_above r passes) (ap is_eq (level_column r l) ∙ other)
      where
        not_above : (r : Row) → not_high r ≡ true → not (is_gt (prefix_cmp plain r (Int (pos l) ∷ []))) ≡ true
        not_above [] h = refl
        not_above (v ∷ r) h = rw (level_column (v ∷ r) l) (by (value_cmp v (Int (pos l))) refl)
          where
            by : (o : Ordering) → value_cmp v (Int (pos l)) ≡ o → not (is_gt o) ≡ true
            by Less e = refl
            by Equal e = refl
            by Greater e = absurd (let never : not_high (v ∷ r) ≡ false = rw (first_key-plain, e) refl in let k = sym never ∙ h in cc)

    last_other : is_level l row ≡ false → rows_upto l k rows ≡ []
    last_other h =
        let low : is_lt (prefix_cmp plain row (Int (pos l) ∷ [])) ≡ true = level_low row (each-at (λ r. not_high r ≡ true) (reverse left) row [] passing) h in
        let others = all_weaker (λ r. AtMost plain r row) (λ r. is_level l r ≡ false)
        (λ r most. ap is_eq (sym (level_column r l)) ∙ not_tied (prefix_cmp plain r (Int (pos l) ∷ [])) ((prefix_cmp_follows plain (Int (pos l) ∷ []) r row most).0 low)) (reverse left)
        (ascending-middle (AtMost plain) (reverse left) row [] in_order) in
        upto_part ∙ ap (filter (is_level l)) ends_with ∙ filter-append (is_level l) (reverse left) (row ∷ [])
        ∙ rw h (append-nil (filter (is_level l) (reverse left)) ∙ filter_none (is_level l) (reverse left) others)

pub last_given : (l : ℕ) (k : List ℕ) (rows : List Row) (bound row : Row) (found is : Bool) → bound ≡ start_row l (Some k) → IsIndex plain rows
    → GivesRow (reverse (up_to_key plain bound rows)) row found
    → found ≡ true → is ≡ is_level l row → GivesLast (rows_upto l k rows) row is
last_given l k rows bound row false is start up gives so told = absurd (let e = so in cc)
last_given l k rows bound row true true start up gives so told = (filter (is_level l) (reverse gives.0), last_here l k rows up row gives.0 (rw start at gives.1) (sym told))
last_given l k rows bound row true false start up gives so told = last_other l k rows up row gives.0 (rw start at gives.1) (sym told)

pub last_none : (l : ℕ) (k : List ℕ) (rows : List Row) (bound row : Row) (found : Bool) → bound ≡ start_row l (Some k) → IsIndex plain rows → GivesRow (reverse (up_to_key plain bound rows)) row found
    → found ≡ false → rows_upto l k rows ≡ []
last_none l k rows bound row true start up gives so = absurd (let e = so in cc)
last_none l k rows bound row false start up gives so =
    let none : reverse (part l k rows up) ≡ [] = rw start at gives in
    upto_part l k rows up ∙ ap (filter (is_level l)) (sym (reverse-reverse (part l k rows up)) ∙ ap reverse none)

-- ---- the last row of all

up_to_none : (rows : List Row) → up_to_key plain [] rows ≡ rows
up_to_none [] = refl
up_to_none (r ∷ rows) = ap (λ rs. r ∷ rs) (up_to_none rows)

less_number : (m n : ℕ) → m < n → is_lt (int_cmp (pos m) (pos n)) ≡ true
less_number m n h = grind arith

pub top_none : (rows : List Row) (row key : Row) (found : Bool) → key ≡ [] → GivesRow (reverse (up_to_key plain key rows)) row found → found ≡ false → IsTop rows 0
top_none rows row key true empty gives so = absurd (let e = so in cc)
top_none rows row key false empty gives so =
    let none : rows ≡ [] = sym (reverse-reverse rows) ∙ ap reverse (ap reverse (sym (up_to_none rows)) ∙ ap (λ k. reverse (up_to_key plain k rows)) (sym empty) ∙ gives) in
    record { above = λ level low. ap (rows_on level) none; there = inl refl }

not_empty : (xs : List Row) (row : Row) → xs ++ row ∷ [] ≡ [] → ⊥
not_empty [] row e = absurd (let never = e in cc)
not_empty (x ∷ xs) row e = absurd (let never = e in cc)

-- no row is on a greater level than the last
pub top_last : (rows : List Row) (row key : Row) (found : Bool) (c : Cell) → IsIndex plain rows → key ≡ [] → GivesRow (reverse (up_to_key plain key rows)) row found → found ≡ true
    → row ≡ row_of_cell c → IsTop rows c.level
top_last rows row key false c up empty gives so told = absurd (let e = so in cc)
top_last rows row key true c up empty gives so told = record { above = none_above; there = inr (λ none. not_empty (filter (is_level c.level) (reverse gives.0)) row (sym own_row ∙ none)) }
  where
    last : reverse rows ≡ row ∷ gives.0
    last = ap reverse (sym (up_to_none rows)) ∙ ap (λ k. reverse (up_to_key plain k rows)) (sym empty) ∙ gives.1

    ends : rows ≡ reverse gives.0 ++ row ∷ []
    ends = sym (reverse-reverse rows) ∙ ap reverse last ∙ reverse-append (row ∷ []) gives.0

    own_row : rows_on c.level rows ≡ filter (is_level c.level) (reverse gives.0) ++ row ∷ []
    own_row =
        let on : is_level c.level row ≡ true = ap (is_level c.level) told ∙ on_own c.level (bound_bytes c.front) c.known in
        ap (rows_on c.level) ends ∙ filter-append (is_level c.level) (reverse gives.0) (row ∷ []) ∙ rw on refl

    none_above : (level : ℕ) → c.level < level → rows_on level rows ≡ []
    none_above level low =
        let sorted : IsSortedTree plain (reverse gives.0 ++ row ∷ []) = subst (IsSortedTree plain) ends (sorted_index plain rows up) in
        let first : value_cmp (column row 0) (Int (pos level)) ≡ int_cmp (pos c.level) (pos level) = ap (λ (r : Row). value_cmp (column r 0) (Int (pos level))) told
        ∙ value_cmp-Int (pos c.level) (pos level) in
        let under_it : is_lt (prefix_cmp plain row (Int (pos level) ∷ [])) ≡ true = ap is_lt (level_column row level ∙ first) ∙ less_number c.level level low in
        let own : is_level level row ≡ false = ap is_eq (sym (level_column row level)) ∙ not_tied (prefix_cmp plain row (Int (pos level) ∷ [])) under_it in
        let others = all_weaker (λ r. AtMost plain r row) (λ r. is_level level r ≡ false)
        (λ r most. ap is_eq (sym (level_column r level)) ∙ not_tied (prefix_cmp plain r (Int (pos level) ∷ [])) ((prefix_cmp_follows plain (Int (pos level) ∷ []) r row most).0 under_it))
        (reverse gives.0) (ascending-middle (AtMost plain) (reverse gives.0) row [] sorted) in
        ap (rows_on level) ends ∙ filter_none (is_level level) (reverse gives.0 ++ row ∷ []) (each-append (λ r. is_level level r ≡ false) (reverse gives.0) (row ∷ []) others (own, tt))
