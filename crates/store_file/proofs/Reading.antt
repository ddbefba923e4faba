-- Walks through a log's entries, one call after the other.
use Rattle.std.proofs.Common.{◌≡◌, ◌⊎◌, inl, inr, ◌+◌, Option, Some, None, IsSome, List, [], ◌∷◌, ◌++◌, length, map, sym, ap, subst, ◌∙◌, arith, append_assoc}
use Rattle.std.specs.List.{cons_option}
use Rattle.std.proofs.lemmas.List.{append-nil, map-append, length-map, length-append}
use Rattle.key_order.specs.Text.{Text as Key}
use Rattle.sqlite_value.specs.Order.{Row}
use Rattle.sqlite_value.specs.Keys.{plain}
use Rattle.sqlite_trees.specs.declared.store.Direction.TheVariants.{Forward}
use Rattle.sqlite_trees.specs.declared.store.Store.{Ghosts}
use Rattle.sqlite_trees.specs.Tree.{Trees, IsIndex, order_of, sought}
use Rattle.sqlite_trees.specs.View.{View, with_cursor}
use Rattle.store_file.specs.declared.register.Register.{Register}
use Rattle.store_file.specs.declared.reader.Walk.{Walk}
use Rattle.store_file.specs.Entries.{entry_row, HoldsEntries}
use Rattle.store_file.specs.Logs.{IsClean, IsSteady, LeavesNoMore, trees_of}
use Rattle.store_file.specs.Reading.{Groups, TakesEntry, EndsGroup, groups_in, with_entry, last_of, IsRead, IsAtEnd, IsWalked, ReadsOn, ReadsAll}
use Rattle.store_file.specs.Rows.{AreLatest, HasLatestRows}
use Rattle.store_file.specs.Walks.{StaysBut}
use Rattle.store_file.proofs.Grouping.{grouped_more, last_latest}
use Rattle.store_file.proofs.OrderOfEntries.{ascending_entries}
use Rattle.store_file.proofs.Walking.{from_none, stays_then, steady_then, no_more_then}

-- after a seek from no key on, the cursor has all rows of the table to give
pub sought_first : (a b : View) (key : Row) → order_of (a.shape 0) ≡ plain → key ≡ [] → b ≡ with_cursor a 0 (sought (order_of (a.shape 0)) Forward key (a.trees 0)) → b.cursors 0 ≡ Some (a.trees 0)
sought_first a b key order start is = rw (is, order, start) (ap Some (from_none (a.trees 0)))

module _ {S : Type 0} (g : Ghosts S) where
  some_same : {X : Type 0} (x y : X) → Some x ≡ Some y → x ≡ y
  some_same x y h = let e = h in cc

  none_left : (row : Row) (left : List Row) → Some [] ≡ Some (row ∷ left) → ⊥
  none_left row left h = let e = h in cc

  -- a call that takes a row reads one entry more
  pub reads_on : (old new : S) (found : Option (Key × Register)) → (IsClean g new → TakesEntry (g.view old) (g.view new) found) → IsSome ((g.view new).cursors 0)
      → (IsClean g new → StaysBut (g.view old) (g.view new)) → IsSteady g old new → LeavesNoMore g old new → ReadsOn g old new found
  reads_on old new found taken live same steady no_more start entries was = record {
    live = live;
    passed = λ clean. by found (taken clean) (was.passed (early clean));
    same = λ clean. stays_then (g.view start) (g.view old) (g.view new) (was.same (early clean)) (same clean);
    steady = steady_then g start old new was.steady steady;
    crash = no_more_then g start old new was.crash no_more;
  }
    where
      early : IsClean g new → IsClean g old
      early clean = omega (arith, steady.clean, clean)

      by : (found : Option (Key × Register)) → TakesEntry (g.view old) (g.view new) found → (left : List Row) × ((g.view old).cursors 0 ≡ Some left)
          × (trees_of g start 0 ≡ map entry_row entries ++ left)
          → (left : List Row) × ((g.view new).cursors 0 ≡ Some left) × (trees_of g start 0 ≡ map entry_row (entries ++ cons_option found []) ++ left)
      by None took passed =
          let same = some_same passed.0 [] (sym passed.1 ∙ took.0) in
          ([], took.1, passed.2 ∙ ap (λ left. map entry_row entries ++ left) same ∙ ap (λ (es : List (Key × Register)). map entry_row es ++ []) (sym (append-nil entries)))
      by (Some entry) took passed =
          let same = some_same passed.0 (entry_row entry ∷ took.0) (sym passed.1 ∙ took.1) in
          let more = sym (append_assoc (map entry_row entries) (entry_row entry ∷ []) took.0) ∙ ap (λ front. front ++ took.0) (sym (map-append entry_row entries (entry ∷ []))) in
          (took.0, took.2, passed.2 ∙ ap (λ left. map entry_row entries ++ left) same ∙ more)

  -- at its end a walk has read all entries
  pub reads_all : (old new : S) → TakesEntry (g.view old) (g.view new) None → IsClean g old → IsIndex plain (trees_of g old 0)
      → (start : S) (entries : List (Key × Register)) → IsRead g start old entries → HoldsEntries (trees_of g start) entries
  reads_all old new took clean shaped start entries was =
      let passed = was.passed clean in
      let same = some_same passed.0 [] (sym passed.1 ∙ took.0) in
      let rows : trees_of g start 0 ≡ map entry_row entries = passed.2 ∙ ap (λ left. map entry_row entries ++ left) same ∙ append-nil (map entry_row entries) in
      let trees : trees_of g old ≡ trees_of g start = ap (λ (v : View). v.trees) (was.same clean) in
      record { rows = rows; ascending = ascending_entries entries (subst (IsIndex plain) (ap (λ (t : Trees). t 0) trees ∙ rows) shaped) }

  -- an entry more, of the key that the walk is at or of the next
  pub walks_on : (start old new : S) (before after : Walk) (given : List (Key × Register)) (entry : Key × Register) (ended : Option (Key × Register))
      → IsSteady g old new → ReadsOn g old new (Some entry)
      → (IsClean g new → TakesEntry (g.view old) (g.view new) (Some entry)) → EndsGroup before.ahead after.ahead entry ended → after.count ≡ before.count + 1
      → IsWalked g start old before given → IsWalked g start new after (given ++ cons_option ended [])
  walks_on start old new before after given entry ended steady reads taken ends more was = record {
    seen = was.seen ++ entry ∷ [];
    read = reads start was.seen was.read;
    count = more ∙ ap (λ n. n + 1) was.count ∙ sym (length-append was.seen (entry ∷ []));
    groups = λ clean. inl (by (taken clean) (was.groups (omega (arith, steady.clean, clean))));
  }
    where
      by : TakesEntry (g.view old) (g.view new) (Some entry) → (groups_in was.seen ≡ (given, before.ahead)) ⊎ IsAtEnd g start old before was.seen given
          → groups_in (was.seen ++ entry ∷ []) ≡ (given ++ cons_option ended [], after.ahead)
      by took (inl is) = grouped_more was.seen entry ∙ ap (λ (s : Groups). with_entry s.0 s.1 entry) is ∙ ends given
      by took (inr end) = absurd (none_left (entry_row entry) took.0 (sym end.over ∙ took.1))

  -- what a walk has handed out, with the latest entry of the key that it is at, is the last of each key
  handed_out : (start now : S) (walk : Walk) (given : List (Key × Register)) (was : IsWalked g start now walk given) → IsClean g now → given ++ cons_option walk.ahead [] ≡ last_of (groups_in was.seen)
  handed_out start now walk given was clean = by (was.groups clean)
    where
      by : (groups_in was.seen ≡ (given, walk.ahead)) ⊎ IsAtEnd g start now walk was.seen given → given ++ cons_option walk.ahead [] ≡ last_of (groups_in was.seen)
      by (inl is) = sym (ap last_of is)
      by (inr end) = ap (λ (o : Option (Key × Register)). given ++ cons_option o []) end.none ∙ append-nil given ∙ end.all

  -- at the end the latest entry of the last key is handed out
  pub walks_out : (start old new : S) (before after : Walk) (given : List (Key × Register)) → IsSteady g old new → ReadsOn g old new None
      → (IsClean g new → TakesEntry (g.view old) (g.view new) None) → after.ahead ≡ None → after.count ≡ before.count
      → IsWalked g start old before given → IsWalked g start new after (given ++ cons_option before.ahead [])
  walks_out start old new before after given steady reads taken none same was = record {
    seen = was.seen;
    read = subst (IsRead g start new) (append-nil was.seen) (reads start was.seen was.read);
    count = same ∙ was.count;
    groups = λ clean. inr (record { over = (taken clean).1; none = none; all = handed_out start old before given was (omega (arith, steady.clean, clean)) });
  }

  -- where none is left, all were handed out
  pub walks_all : (start old new : S) (before : Walk) (given : List (Key × Register)) → IsClean g new → IsSteady g old new → ReadsAll g old new → before.ahead ≡ None
      → IsWalked g start old before given → HasLatestRows (trees_of g start) given × (before.count ≡ length (trees_of g start 0))
  walks_all start old new before given clean steady all none was =
      let held = all clean start was.seen was.read in
      let is : given ≡ last_of (groups_in was.seen) = sym (append-nil given) ∙ ap (λ (o : Option (Key × Register)). given ++ cons_option o []) (sym none)
      ∙ handed_out start old before given was (omega (arith, steady.clean, clean)) in (
        (was.seen, held, subst (AreLatest was.seen) (sym is) (last_latest was.seen held.ascending)),
        was.count ∙ sym (length-map was.seen entry_row) ∙ ap length (sym held.rows),
      )
