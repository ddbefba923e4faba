-- A seek back from a key in an index gives the key's last row first.
use Rattle.std.proofs.Common.{◌≡◌, ℕ, Bool, true, false, not, List, [], ◌∷◌, ◌++◌, if◌then◌else◌, string_bytes, filter, reverse, Option, Some, None, refl, sym, ap, subst, ◌∙◌}
use Rattle.std.specs.List.{AllByRecursion, last_or}
use Rattle.std.specs.declared.cmp.Ordering.{Ordering}
use Rattle.std.specs.declared.cmp.Ordering.TheVariants.{Less, Equal, Greater}
use Rattle.std.specs.Ordering.{is_lt, is_eq, is_gt}
use Rattle.std.proofs.lemmas.List.{reverse-reverse, reverse-append}
use Rattle.std.proofs.lemmas.Slice.Eq.{bytes_eq-Decides}
use Rattle.std.proofs.lemmas.Map.Text.{is_eq-slice_cmp}
use Rattle.std.proofs.lemmas.List.Elements.{filter-append, filter_passes, recursion_from_All}
use Rattle.sqlite_value.specs.declared.value.Value.TheVariants.{Text as Words}
use Rattle.sqlite_value.specs.Order.{Row, column, value_cmp}
use Rattle.sqlite_value.specs.Keys.{plain, prefix_cmp}
use Rattle.sqlite_value.proofs.OrderLemmas.{value_cmp-Null, value_cmp-Text}
use Rattle.sqlite_trees.specs.declared.store.Direction.TheVariants.{Backward}
use Rattle.sqlite_trees.specs.Tree.{IsIndex, up_to_key, sought}
use Rattle.sqlite_trees.proofs.ListLemmas.{all_weaker, ascending-filter, filter-filter, filter_none}
use Rattle.sqlite_trees.proofs.TreeLemmas.{AtMost, IsSortedTree, prefix_cmp-one, prefix_cmp_follows, sorted_index, up_to_key-filter}
use Rattle.store_file.specs.Entries.{entry_row, entry_row_of}
use Rattle.store_file.specs.Latest.{rows_of}
use Rattle.store_file.specs.Walks.{GivesRow}
use Rattle.store_file.specs.declared.register.Register.{Register}
use Rattle.key_order.specs.Text.{Text as Key}
use Rattle.store_file.proofs.Ascending.{all-middle, ascending-middle}

-- a key of one column is compared with the first column
pub prefix_cmp-column : (row : Row) (key : List ℕ) → prefix_cmp plain row (Words key ∷ []) ≡ value_cmp (column row 0) (Words key)
prefix_cmp-column [] key = sym (value_cmp-Null (Words key))
prefix_cmp-column (v ∷ row) key = prefix_cmp-one v row (Words key)

pub last_or-append : {X : Type 0} (found : Option X) (xs : List X) (x : X) → last_or found (xs ++ x ∷ []) ≡ Some x
last_or-append found [] x = refl
last_or-append found (y ∷ xs) x = last_or-append (Some y) xs x

not_above : (o : Ordering) → is_eq o ≡ true → not (is_gt o) ≡ true
not_above Less h = refl
not_above Equal h = refl
not_above Greater h = h

below : (o : Ordering) → not (is_gt o) ≡ true → is_eq o ≡ false → is_lt o ≡ true
below Less h k = refl
below Equal h k = sym k
below Greater h k = h

not_tied : (o : Ordering) → is_lt o ≡ true → is_eq o ≡ false
not_tied Less h = refl
not_tied Equal h = sym h
not_tied Greater h = refl

module _ (key : List ℕ) (es : List Row) (up : IsIndex plain es) where
  abbrev is_of : Row → Bool
  is_of row = is_eq (value_cmp (column row 0) (Words key))

  abbrev is_within : Row → Bool
  is_within row = not (is_gt (prefix_cmp plain row (Words key ∷ [])))

  abbrev front : List Row
  front = up_to_key plain (Words key ∷ []) es

  is_front : front ≡ filter is_within es
  is_front = up_to_key-filter plain (Words key ∷ []) es (sorted_index plain es up)

  -- the rows of the key are among those up to it
  rows_within : rows_of key es ≡ filter is_of front
  rows_within = sym (filter-filter is_of is_within (λ row of. rw (prefix_cmp-column row key) (not_above _ of)) es) ∙ ap (filter is_of) (sym is_front)

  -- where a seek back gives nothing, the key has no rows
  pub none_sought : sought plain Backward (Words key ∷ []) es ≡ [] → rows_of key es ≡ []
  none_sought is = rows_within ∙ ap (filter is_of) (sym (reverse-reverse front) ∙ ap reverse is)

  module _ (row : Row) (left : List Row) (is : sought plain Backward (Words key ∷ []) es ≡ row ∷ left) where
    ends : front ≡ reverse left ++ row ∷ []
    ends = sym (reverse-reverse front) ∙ ap reverse is ∙ reverse-append (row ∷ []) left

    rows_end : rows_of key es ≡ filter is_of (reverse left) ++ filter is_of (row ∷ [])
    rows_end = rows_within ∙ ap (filter is_of) ends ∙ filter-append is_of (reverse left) (row ∷ [])

    -- where the first row that a seek back gives is of the key, it is the last row of the key
    pub last_sought : is_eq (value_cmp (column row 0) (Words key)) ≡ true → last_or None (rows_of key es) ≡ Some row
    last_sought of = rw (rows_end, of) (last_or-append None (filter is_of (reverse left)) row)

    -- where it is of another key, the key has no rows
    pub other_sought : is_eq (value_cmp (column row 0) (Words key)) ≡ false → rows_of key es ≡ []
    other_sought of =
        let up_to : IsSortedTree plain (reverse left ++ row ∷ []) = subst (IsSortedTree plain) (sym is_front ∙ ends) (ascending-filter (AtMost plain) is_within es (sorted_index plain es up)) in
        let within : AllByRecursion (λ r. is_within r ≡ true) (reverse left ++ row ∷ []) =
        subst (AllByRecursion (λ r. is_within r ≡ true)) (sym is_front ∙ ends) (recursion_from_All _ _ (filter_passes is_within es)) in
        let low : is_lt (prefix_cmp plain row (Words key ∷ [])) ≡ true = below _ (all-middle _ (reverse left) row [] within) (ap is_eq (prefix_cmp-column row key) ∙ of) in
        let others = all_weaker (λ r. AtMost plain r row) (λ r. is_of r ≡ false)
        (λ r most. ap is_eq (sym (prefix_cmp-column r key)) ∙ not_tied _ ((prefix_cmp_follows plain (Words key ∷ []) r row most).0 low)) (reverse left)
        (ascending-middle _ (reverse left) row [] up_to) in
        rw (rows_end, filter_none is_of (reverse left) others, of) refl

-- what a look back from a key finds is the last row of the key, where it is one of the key
pub last_given : (key : List ℕ) (es : List Row) (bound row : Row) (found is : Bool) → bound ≡ Words key ∷ [] → IsIndex plain es → GivesRow (sought plain Backward bound es) row found
    → found ≡ true → is ≡ is_eq (value_cmp (column row 0) (Words key)) → last_or None (rows_of key es) ≡ if◌then◌else◌ is (Some row) None
last_given key es bound row false is start up gives so told = absurd (let k = so in cc)
last_given key es bound row true true start up gives so told = last_sought key es up row gives.0 (rw start at gives.1) (sym told)
last_given key es bound row true false start up gives so told = ap (last_or None) (other_sought key es up row gives.0 (rw start at gives.1) (sym told))

-- where a look back from a key finds nothing, the key has no row
pub none_given : (key : List ℕ) (es : List Row) (bound row : Row) (found : Bool) → bound ≡ Words key ∷ [] → IsIndex plain es → GivesRow (sought plain Backward bound es) row found
    → found ≡ false → last_or None (rows_of key es) ≡ None
none_given key es bound row true start up gives so = absurd (let k = so in cc)
none_given key es bound row false start up gives so = ap (last_or None) (none_sought key es up (rw start at gives))

last_all : {X : Type 0} (P : X → Type 0) (o : Option X) (xs : List X) (x : X) → ((y : X) → o ≡ Some y → P y) → AllByRecursion P xs → last_or o xs ≡ Some x → P x
last_all P o [] x was all is = was x is
last_all P o (y ∷ xs) x was all is = last_all P (Some y) xs x (λ z same. subst P (let e = same in cc) all.0) all.1 is

-- the last row of a key, where it is an entry's, is that of the entry's register under the key
pub last_entry : (key : List ℕ) (es : List Row) (row : Row) (found : Bool) (e : Key × Register) → found ≡ true → last_or None (rows_of key es) ≡ if◌then◌else◌ found (Some row) None
    → row ≡ entry_row e → last_or None (rows_of key es) ≡ Some (entry_row_of key e.1)
last_entry key es row false e so is told = absurd (let k = so in cc)
last_entry key es row true e so is told =
    let test : Row → Bool = λ r. is_eq (value_cmp (column r 0) (Words key)) in
    let passed : test row ≡ true = last_all (λ r. test r ≡ true) None (rows_of key es) row (λ y none. absurd (let k = none in cc)) (recursion_from_All _ _ (filter_passes test es)) is in
    let tied : is_eq (value_cmp (Words (string_bytes e.0)) (Words key)) ≡ true = rw told at passed in
    let same : string_bytes e.0 ≡ key = (bytes_eq-Decides (string_bytes e.0) key).0 (sym (is_eq-slice_cmp (string_bytes e.0) key) ∙ ap is_eq (sym (value_cmp-Text (string_bytes e.0) key)) ∙ tied) in
    is ∙ ap Some (told ∙ ap (λ bytes. entry_row_of bytes e.1) same)
