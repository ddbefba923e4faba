-- A walk through the entries of the keys between two others.
use Rattle.std.proofs.Common.{◌≡◌, pos, Bool, true, false, not, cond, ◌&&◌, List, [], ◌∷◌, ◌++◌, filter, map, Option, Some, None, option_map, string_bytes, inl, inr, refl, sym, ap, subst, ◌∙◌, append_assoc, append-nil, arith}
use Rattle.std.specs.Cmp.{alike_right}
use Rattle.std.specs.List.{AllByRecursion, last_or}
use Rattle.std.specs.Ordering.{is_eq, is_gt, is_lt}
use Rattle.std.specs.String.{string_cmp_total}
use Rattle.std.specs.declared.cmp.Ordering.{Ordering}
use Rattle.std.specs.declared.cmp.Ordering.TheVariants.{Less, Equal, Greater}
use Rattle.std.proofs.lemmas.List.{map-append}
use Rattle.std.proofs.lemmas.List.Elements.{filter-append, filter_passes, recursion_from_All}
use Rattle.std.proofs.lemmas.Map.Text.{is_eq-slice_cmp}
use Rattle.std.proofs.lemmas.Slice.Eq.{bytes_eq-Decides}
use Rattle.key_order.specs.Map.{IsMap, get}
use Rattle.key_order.specs.Order.{Below, Same, below}
use Rattle.key_order.specs.Text.{Text as Key, text_order}
use Rattle.key_order.proofs.Bools.{is_equal, is_greater}
use Rattle.key_order.proofs.ListParts.{each-at, map-before}
use Rattle.key_order.proofs.Orders.{not_low_self, turned'}
use Rattle.sqlite_value.specs.declared.value.Value.TheVariants.{Int, Text as Words, Blob}
use Rattle.sqlite_value.specs.Keys.{plain, prefix_cmp}
use Rattle.sqlite_value.specs.Order.{Row, column, value_cmp}
use Rattle.sqlite_value.proofs.KeyLemmas.{first_key-plain}
use Rattle.sqlite_value.proofs.OrderLemmas.{value_cmp_total, value_cmp-Null, value_cmp-Text, value_cmp-apart}
use Rattle.sqlite_trees.specs.declared.store.Direction.TheVariants.{Forward}
use Rattle.sqlite_trees.specs.Tree.{Trees, IsIndex, from_key, order_of, sought}
use Rattle.sqlite_trees.specs.View.{View, with_cursor}
use Rattle.sqlite_trees.proofs.ListLemmas.{all_weaker, ascending-filter, filter-filter, filter_none}
use Rattle.sqlite_trees.proofs.TreeLemmas.{AtMost, IsSortedTree, from_key-filter, not_true, prefix_cmp_follows, sorted_index}
use Rattle.store_file.specs.declared.register.Register.{Register}
use Rattle.store_file.specs.Entries.{entry_row, entry_row_of}
use Rattle.store_file.specs.Latest.{rows_of}
use Rattle.store_file.specs.Ranges.{above_bound, below_bound, is_between, row_above, HasSet, AreLatestBetween, TakesBelow}
use Rattle.store_file.specs.Reading.{TakesEntry}
use Rattle.store_file.proofs.LastRow.{last_or-append, prefix_cmp-column}
use Rattle.store_file.proofs.Walking.{some_same}

abbrev Entry : Type 0
Entry = Key × Register

-- the test of `rows_of`
abbrev is_of : Key → Row → Bool
is_of k row = is_eq (value_cmp (column row 0) (Words (string_bytes k)))

-- the rows of a key among those of entries
abbrev rows_read : Key → List Entry → List Row
rows_read k seen = rows_of (string_bytes k) (map entry_row seen)

-- whether a row is of a key below another
abbrev is_low : Key → Row → Bool
is_low high row = is_lt (prefix_cmp plain row (Words (string_bytes high) ∷ []))

-- ---- what is read, and what is kept of it

-- of the rows of each key the last has the register that is kept
abbrev pub KeepsLast : List Entry → List Entry → Type 0
KeepsLast seen rows = (k : Key) → last_or None (rows_read k seen) ≡ option_map (entry_row_of (string_bytes k)) (get text_order rows k)

one_of : (k : Key) (e : Entry) → is_of k (entry_row e) ≡ is_eq (text_order e.0 k)
one_of k e = ap is_eq (value_cmp-Text (string_bytes e.0) (string_bytes k))

same_bytes : (e : Entry) (k : Key) → is_eq (text_order e.0 k) ≡ true → string_bytes e.0 ≡ string_bytes k
same_bytes e k tied = (bytes_eq-Decides (string_bytes e.0) (string_bytes k)).0 (sym (is_eq-slice_cmp (string_bytes e.0) (string_bytes k)) ∙ tied)

filter_one : {X : Type 0} (p : X → Bool) (x : X) (b : Bool) → p x ≡ b → filter p (x ∷ []) ≡ cond b (x ∷ []) []
filter_one p x b h = rw h refl

pub keeps_more : (seen rows new : List Entry) (e : Entry) → KeepsLast seen rows → IsMap text_order rows → HasSet rows e new → KeepsLast (seen ++ e ∷ []) new
keeps_more seen rows new e was up now k = ap (last_or None) all ∙ by (is_eq (text_order e.0 k)) refl
  where
    all : rows_read k (seen ++ e ∷ []) ≡ rows_read k seen ++ filter (is_of k) (entry_row e ∷ [])
    all = ap (filter (is_of k)) (map-append entry_row seen (e ∷ [])) ∙ filter-append (is_of k) (map entry_row seen) (entry_row e ∷ [])

    by : (b : Bool) → is_eq (text_order e.0 k) ≡ b → last_or None (rows_read k seen ++ filter (is_of k) (entry_row e ∷ [])) ≡ option_map (entry_row_of (string_bytes k)) (get text_order new k)
    by true tied =
        let found : get text_order new k ≡ Some e.1 = now.set up k ∙ ap (λ b. cond b (Some e.1) (get text_order rows k)) tied in
        ap (λ more. last_or None (rows_read k seen ++ more)) (filter_one (is_of k) (entry_row e) true (one_of k e ∙ tied)) ∙ last_or-append None (rows_read k seen) (entry_row e)
        ∙ ap (λ bytes. Some (entry_row_of bytes e.1)) (same_bytes e k tied) ∙ sym (ap (option_map (entry_row_of (string_bytes k))) found)
    by false apart =
        let found : get text_order new k ≡ get text_order rows k = now.set up k ∙ ap (λ b. cond b (Some e.1) (get text_order rows k)) apart in
        ap (λ more. last_or None (rows_read k seen ++ more)) (filter_one (is_of k) (entry_row e) false (one_of k e ∙ apart)) ∙ ap (last_or None) (append-nil (rows_read k seen))
        ∙ was k ∙ sym (ap (option_map (entry_row_of (string_bytes k))) found)

-- keys that are the same are between the same
above_same : (after : Option Key) (a b : Key) → Same text_order a b → above_bound after a ≡ above_bound after b
above_same None a b tied = refl
above_same (Some low) a b tied = ap is_lt (alike_right string_cmp_total a b low tied)

below_same : (before : Option Key) (a b : Key) → Same text_order a b → below_bound before a ≡ below_bound before b
below_same None a b tied = refl
below_same (Some high) a b tied = ap is_lt (string_cmp_total.congr a b high tied)

pub between_same : (after before : Option Key) (a b : Key) → Same text_order a b → is_between after before a ≡ is_between after before b
between_same after before a b tied = λ i. above_same after a b tied i && below_same before a b tied i

both : (a b : Bool) → a ≡ true → b ≡ true → a && b ≡ true
both a b h k = rw (h, k) refl

not_both_parts : (a b : Bool) → a && b ≡ false → b ≡ true → a ≡ false
not_both_parts true b h k = absurd (let e = h in cc)
not_both_parts false b h k = refl

parts : (a b : Bool) → a && b ≡ true → (a ≡ true) × (b ≡ true)
parts true b h = (refl, h)
parts false b h = absurd (let k = h in cc)

module _ (after before : Option Key) where
  -- no other key is kept
  abbrev pub KeepsBetween : List Entry → Type 0
  KeepsBetween rows = (k : Key) → is_between after before k ≡ false → get text_order rows k ≡ None

  between_more : (rows new : List Entry) (e : Entry) → KeepsBetween rows → IsMap text_order rows → HasSet rows e new → is_between after before e.0 ≡ true → KeepsBetween new
  between_more rows new e was up now here k out = now.set up k ∙ by (is_eq (text_order e.0 k)) refl
    where
      by : (b : Bool) → is_eq (text_order e.0 k) ≡ b → cond b (Some e.1) (get text_order rows k) ≡ None
      by true h =
          let tied = is_equal (text_order e.0 k) h in
          absurd (let never : true ≡ false = sym here ∙ between_same after before e.0 k tied ∙ out in cc)
      by false h = was k out

  -- ---- the rows that a seek above a key gives

  abbrev not_low : Row → Bool
  not_low row = not (is_lt (prefix_cmp plain row (row_above after)))

  -- rows of keys above it are among these
  of_passes : (low : Option Key) (k : Key) (row : Row) → above_bound low k ≡ true → is_of k row ≡ true → not (is_lt (prefix_cmp plain row (row_above low))) ≡ true
  of_passes None k row high of = refl
  of_passes (Some low) k [] high of = absurd (let never : false ≡ true = ap is_eq (sym (value_cmp-Null (Words (string_bytes k)))) ∙ of in cc)
  of_passes (Some low) k (v ∷ row) high of =
      let first : value_cmp v (Words (string_bytes low)) ≡ Greater = value_cmp_total.congr v (Words (string_bytes k)) (Words (string_bytes low)) (is_equal (value_cmp v (Words (string_bytes k))) of)
      ∙ value_cmp-Text (string_bytes k) (string_bytes low) ∙ is_greater (text_order k low) (turned' text_order string_cmp_total low k ∙ high) in
      rw (first_key-plain, first) refl

  -- an entry among these has a key above it
  entry_above : (low : Option Key) (e : Entry) → not (is_lt (prefix_cmp plain (entry_row e) (row_above low))) ≡ true → above_bound low e.0 ≡ true
  entry_above None e h = refl
  entry_above (Some low) e h = by (text_order e.0 low) refl
    where
      time_low : value_cmp (Int (pos e.1.time)) (Blob []) ≡ Less
      time_low = value_cmp-apart (Int (pos e.1.time)) (Blob []) (λ same. omega (arith, same))

      first : value_cmp (Words (string_bytes e.0)) (Words (string_bytes low)) ≡ text_order e.0 low
      first = value_cmp-Text (string_bytes e.0) (string_bytes low)

      by : (o : Ordering) → text_order e.0 low ≡ o → above_bound (Some low) e.0 ≡ true
      by Less is =
          absurd (let never : not (is_lt (prefix_cmp plain (entry_row e) (row_above (Some low)))) ≡ false = rw (first_key-plain, first ∙ is) refl in
          let k = sym never ∙ h in cc)
      by Equal is =
          absurd (let never : not (is_lt (prefix_cmp plain (entry_row e) (row_above (Some low)))) ≡ false = rw (first_key-plain, first ∙ is, time_low) refl in
          let k = sym never ∙ h in cc)
      by Greater is = sym (turned' text_order string_cmp_total low e.0) ∙ ap is_gt is

  module _ (rows : List Row) (up : IsIndex plain rows) where
    abbrev given : List Row
    given = from_key plain (row_above after) rows

    given_is : given ≡ filter not_low rows
    given_is = from_key-filter plain (row_above after) rows (sorted_index plain rows up)

    passing : AllByRecursion (λ row. not_low row ≡ true) given
    passing = subst (AllByRecursion (λ row. not_low row ≡ true)) (sym given_is) (recursion_from_All _ _ (filter_passes not_low rows))

    sorted : IsSortedTree plain given
    sorted = subst (IsSortedTree plain) (sym given_is) (ascending-filter (AtMost plain) not_low rows (sorted_index plain rows up))

    rows_given : (k : Key) → above_bound after k ≡ true → rows_of (string_bytes k) rows ≡ rows_of (string_bytes k) given
    rows_given k high = sym (filter-filter (is_of k) not_low (λ row of. of_passes after k row high of) rows) ∙ ap (filter (is_of k)) (sym given_is)

    sorted_behind : (xs ys : List Row) → IsSortedTree plain (xs ++ ys) → IsSortedTree plain ys
    sorted_behind [] ys s = s
    sorted_behind (x ∷ xs) ys s = sorted_behind xs ys s.1

    -- where no row that is left is of the key, its last row was read
    last_read : (seen : List Entry) (left : List Row) (k : Key) → given ≡ map entry_row seen ++ left → above_bound after k ≡ true → rows_of (string_bytes k) left ≡ []
        → last_or None (rows_of (string_bytes k) rows) ≡ last_or None (rows_of (string_bytes k) (map entry_row seen))
    last_read seen left k is high none =
        ap (last_or None) (rows_given k high ∙ ap (filter (is_of k)) is ∙ filter-append (is_of k) (map entry_row seen) left
        ∙ ap (λ more. rows_of (string_bytes k) (map entry_row seen) ++ more) none ∙ append-nil (rows_of (string_bytes k) (map entry_row seen)))

    module _ (seen : List Entry) (e : Entry) (left : List Row) (is : given ≡ map entry_row seen ++ entry_row e ∷ left) where
      read_above : above_bound after e.0 ≡ true
      read_above = entry_above after e (each-at (λ row. not_low row ≡ true) (map entry_row seen) (entry_row e) left (subst (AllByRecursion (λ row. not_low row ≡ true)) is passing))

      -- from an entry on whose key isn't below the bound, no row is of a key below it
      none_left : (high : Option Key) (k : Key) → below_bound high e.0 ≡ false → below_bound high k ≡ true → rows_of (string_bytes k) (entry_row e ∷ left) ≡ []
      none_left None k out low = absurd (let never = out in cc)
      none_left (Some high) k out low =
          filter_none (is_of k) (entry_row e ∷ left) (
            other (entry_row e) (λ h. h),
            all_weaker (λ r. AtMost plain (entry_row e) r) (λ r. is_of k r ≡ false)
                (λ r most. other r (prefix_cmp_follows plain (Words (string_bytes high) ∷ []) (entry_row e) r most).0) left
                (sorted_behind (map entry_row seen) (entry_row e ∷ left) (subst (IsSortedTree plain) is sorted)).0,
          )
        where
          not_here : is_low high (entry_row e) ≡ false
          not_here = ap is_lt (prefix_cmp-column (entry_row e) (string_bytes high) ∙ value_cmp-Text (string_bytes e.0) (string_bytes high)) ∙ out

          other : (r : Row) → (is_low high r ≡ true → is_low high (entry_row e) ≡ true) → is_of k r ≡ false
          other r follows = not_true (is_of k r) (λ of.
              let here : is_low high r ≡ true = ap is_lt (prefix_cmp-column r (string_bytes high)
              ∙ value_cmp_total.congr (column r 0) (Words (string_bytes k)) (Words (string_bytes high)) (is_equal (value_cmp (column r 0) (Words (string_bytes k))) of)
              ∙ value_cmp-Text (string_bytes k) (string_bytes high)) ∙ low in
              let never : true ≡ false = sym (follows here) ∙ not_here in cc)

-- ---- the walk

-- a walk through the rows that a seek gave has read some of them, and kept the latest register of each key
pub record IsRanging (after before : Option Key) (given : List Row) (rows : List Entry) (v : View) : Type 0 where
  pub left : List Row
  pub seen : List Entry
  pub cursor : v.cursors 0 ≡ Some left
  pub is : given ≡ map entry_row seen ++ left
  pub ascending : IsMap text_order rows
  pub last : KeepsLast seen rows
  pub others : KeepsBetween after before rows

module _ (after before : Option Key) where
  pub begins : (a b : View) (key : Row) (rows : List Entry) → order_of (a.shape 0) ≡ plain → key ≡ row_above after → rows ≡ []
      → b ≡ with_cursor a 0 (sought (order_of (a.shape 0)) Forward key (a.trees 0)) → IsRanging after before (from_key plain (row_above after) (a.trees 0)) rows b
  begins a b key rows order start none is = record {
    left = from_key plain (row_above after) (a.trees 0);
    seen = [];
    cursor = rw (is, order, start) refl;
    is = refl;
    ascending = subst (IsMap text_order) (sym none) tt;
    last = λ k. rw none refl;
    others = λ k out. rw none refl;
  }

  module _ (trees : Trees) (up : IsIndex plain (trees 0)) where
    abbrev pub sought_rows : List Row
    sought_rows = from_key plain (row_above after) (trees 0)

    module _ (rows : List Entry) (a b : View) (was : IsRanging after before sought_rows rows a) where
      -- the rows that were left
      left_is : (xs : List Row) → a.cursors 0 ≡ Some xs → was.left ≡ xs
      left_is xs at = some_same (sym was.cursor ∙ at)

      -- the rows with the entry that it comes to
      came : (e : Entry) (went : TakesEntry a b (Some e)) → sought_rows ≡ map entry_row was.seen ++ entry_row e ∷ went.0
      came e went = was.is ∙ ap (λ xs. map entry_row was.seen ++ xs) (left_is (entry_row e ∷ went.0) went.1)

      -- where an entry comes whose key is below the bound, and its register is set, the walk goes on
      pub goes_on : (new : List Entry) (e : Entry) → TakesBelow before a b (Some e) → HasSet rows e new → IsRanging after before sought_rows new b
      goes_on new e (low, went) now =
          let is = came e went in
          record {
            left = went.0;
            seen = was.seen ++ e ∷ [];
            cursor = went.2;
            is = is ∙ sym (append_assoc (map entry_row was.seen) (entry_row e ∷ []) went.0) ∙ ap (λ front. front ++ went.0) (sym (map-append entry_row was.seen (e ∷ [])));
            ascending = now.ascending was.ascending;
            last = keeps_more was.seen rows new e was.last was.ascending now;
            others = between_more after before rows new e was.others was.ascending now
                (both (above_bound after e.0) (below_bound before e.0) (read_above after before (trees 0) up was.seen e went.0 is) low);
          }

      -- where no entry of a key between two bounds is left, all that are were read
      found_between : (high : Option Key) (left : List Row) → sought_rows ≡ map entry_row was.seen ++ left → ((k : Key) → below_bound high k ≡ true → rows_of (string_bytes k) left ≡ [])
          → KeepsBetween after high rows → AreLatestBetween after high trees rows
      found_between high left is none others = record {
        ascending = was.ascending;
        latest = λ k within.
            let (above, low) = parts (above_bound after k) (below_bound high k) within in
            last_read after before (trees 0) up was.seen left k is above (none k low) ∙ was.last k;
        others = others;
      }

      -- where none comes, all were read
      pub ends_all : TakesBelow before a b None → AreLatestBetween after before trees rows
      ends_all (inl went) = found_between before [] (was.is ∙ ap (λ xs. map entry_row was.seen ++ xs) (left_is [] went.0)) (λ k low. refl) was.others
      ends_all (inr (e, out, went)) =
          let is = came e went in
          found_between before (entry_row e ∷ went.0) is (λ k low. none_left after before (trees 0) up was.seen e went.0 is before k out low) was.others

      -- where one of a key above all comes, those up to it were read
      pub ends_first : (e : Entry) → TakesBelow before a b (Some e) → IsMap text_order (rows ++ e ∷ []) → AreLatestBetween after (Some e.0) trees rows
      ends_first e (low, went) higher =
          let is = came e went in
          let not_self : below text_order e.0 e.0 ≡ false = not_true (below text_order e.0 e.0) (not_low_self text_order string_cmp_total e.0) in
          found_between (Some e.0) (entry_row e ∷ went.0) is (λ k under. none_left after before (trees 0) up was.seen e went.0 is (Some e.0) k not_self under)
          (λ k out. others k out (below text_order k e.0) refl)
        where
          none_from : (k : Key) (xs : List Entry) → AllByRecursion (λ (x : Entry). Below text_order x.0 e.0) xs → below text_order k e.0 ≡ false → get text_order xs k ≡ None
          none_from k [] under above = refl
          none_from k (x ∷ xs) under above = by (is_eq (text_order x.0 k)) refl (none_from k xs under.1 above)
            where
              by : (b : Bool) → is_eq (text_order x.0 k) ≡ b → get text_order xs k ≡ None → cond (is_eq (text_order x.0 k)) (Some x.1) (get text_order xs k) ≡ None
              by true tied rest =
                  absurd (let never : true ≡ false = sym under.0 ∙ ap is_lt (string_cmp_total.congr x.0 k e.0 (is_equal (text_order x.0 k) tied)) ∙ above in cc)
              by false apart rest = ap (λ b. cond b (Some x.1) (get text_order xs k)) apart ∙ rest

          others : (k : Key) → above_bound after k && below text_order k e.0 ≡ false → (b : Bool) → below text_order k e.0 ≡ b → get text_order rows k ≡ None
          others k out true under = was.others k (ap (λ b. b && below_bound before k) (not_both_parts (above_bound after k) (below text_order k e.0) out under))
          others k out false above = none_from k rows (map-before text_order rows e [] higher) above
