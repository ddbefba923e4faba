-- What is found in the table is what the rows in memory have.
use Rattle.std.proofs.Common.{◌≡◌, ℕ, Bool, true, false, cond, List, [], ◌∷◌, map, filter, Option, Some, None, option_map, Less, Equal, refl, sym, ap, subst, ◌∙◌, ◌⊎◌, inl, inr, string_bytes}
use Rattle.std.specs.List.{AllByRecursion, last_or}
use Rattle.std.proofs.lemmas.List.Elements.{filter_passes, recursion_from_All}
use Rattle.std.specs.Cmp.{IsTotalOrder, IsEquivalence, alike_right}
use Rattle.std.specs.Ordering.{ord_max, eq_by_cmp, is_eq, is_gt}
use Rattle.key_order.specs.Map.{get}
use Rattle.key_order.specs.Join.{joined, IsJoining}
use Rattle.key_order.specs.Text.{Text as Key, text_order}
use Rattle.key_order.proofs.Bools.{which, is_equal}
use Rattle.key_order.proofs.Orders.{turned}
use Rattle.key_order.proofs.Values.{Eq, on, back, assoc, along, cong, same}
use Rattle.merkle_replica.specs.Puts.{join_of_values}
use Rattle.sqlite_value.specs.Order.{column, value_cmp}
use Rattle.sqlite_value.specs.declared.value.Value.TheVariants.{Text as Words}
use Rattle.sqlite_value.proofs.KeyLemmas.{then_below, then_tied}
use Rattle.sqlite_value.proofs.OrderLemmas.{value_cmp-Text}
use Rattle.sqlite_trees.specs.Tree.{Trees, IsAscending}
use Rattle.sqlite_trees.proofs.ListLemmas.{ascending-filter, filter-map}
use Rattle.store_file.specs.Entries.{entry_row, entry_row_of, entry_order}
use Rattle.store_file.specs.Latest.{rows_of, IsLatestAt}
use Rattle.store_file.specs.Registers.{register_order}
use Rattle.store_file.specs.declared.register.Register.{Register}
use Rattle.merkle_store.specs.Kept.{HoldsLatest}
use Rattle.merkle_store.proofs.Agreeing.{one_row}

last_row : (found : Option (Key × Register)) (es : List (Key × Register)) → last_or (option_map entry_row found) (map entry_row es) ≡ option_map entry_row (last_or found es)
last_row found [] = refl
last_row found (x ∷ es) = last_row (Some x) es

module _ (total_registers : IsTotalOrder register_order) (eq : Register → Register → Bool) (e : IsEquivalence eq) (j : IsJoining eq (ord_max register_order)) (total : IsTotalOrder text_order)
    (ties : (a b : Register) → eq a b ≡ eq_by_cmp register_order a b) (k : Key) where
  abbrev J : Option Register → Option Register → Option Register
  J = joined (ord_max register_order)

  abbrev E : Option Register → Option Register → Type 0
  E = Eq eq e (ord_max register_order) j

  abbrev G : List (Key × Register) → Option Register
  G entries = join_of_values text_order eq (ord_max register_order) entries k

  abbrev at : Key × Register → Option Register
  at r = cond (is_eq (text_order r.0 k)) (Some r.1) None

  abbrev is_mine : Key × Register → Bool
  is_mine r = is_eq (text_order r.0 k)

  abbrev register_of : Option (Key × Register) → Option Register
  register_of found = option_map (λ (r : Key × Register). r.1) found

  -- the rows of the key are those of its entries
  rows_are : (es : List (Key × Register)) → rows_of (string_bytes k) (map entry_row es) ≡ map entry_row (filter is_mine es)
  rows_are es = filter-map (λ row. is_eq (value_cmp (column row 0) (Words (string_bytes k)))) entry_row es
      ∙ ap (λ test. map entry_row (filter test es)) (λ i r. is_eq (value_cmp-Text (string_bytes r.0) (string_bytes k) i))

  -- the entries of the key alone gather what all gather
  gather_mine : (es : List (Key × Register)) → G (filter is_mine es) ≡ G es
  gather_mine [] = refl
  gather_mine (r ∷ es) = step (which (is_mine r)) (gather_mine es)
    where
      step : (is_mine r ≡ false) ⊎ (is_mine r ≡ true) → G (filter is_mine es) ≡ G es → G (filter is_mine (r ∷ es)) ≡ G (r ∷ es)
      step (inl h) rest = rw h rest
      step (inr h) rest = rw (h, h) (ap (λ g. J (Some r.1) g) rest)

  -- of two entries of the key that ascend the second register is the greater one
  second : (x y : Key × Register) → is_mine x ≡ true → is_mine y ≡ true → entry_order x y ≡ Less → ord_max register_order x.1 y.1 ≡ y.1
  second x y hx hy below = by (then_below (text_order x.0 y.0) (register_order x.1 y.1) below)
    where
      one_key : text_order x.0 y.0 ≡ Equal
      one_key = alike_right total y.0 k x.0 (is_equal (text_order y.0 k) hy) ∙ is_equal (text_order x.0 k) hx

      by : (text_order x.0 y.0 ≡ Less) ⊎ ((text_order x.0 y.0 ≡ Equal) × (register_order x.1 y.1 ≡ Less)) → ord_max register_order x.1 y.1 ≡ y.1
      by (inl h) = absurd (let z = sym one_key ∙ h in cc)
      by (inr h) = rw (turned register_order total_registers x.1 y.1 ∙ ap is_gt h.1) refl

  -- the last of entries of the key, which ascend, has what they gather
  last_gathers : (es : List (Key × Register)) → AllByRecursion (λ r. is_mine r ≡ true) es → IsAscending (λ a b. entry_order a b ≡ Less) es → E (register_of (last_or None es)) (G es)
  last_gathers [] mine up = tt
  last_gathers (x ∷ []) mine up = rw mine.0 (e.refl x.1)
  last_gathers (x ∷ y ∷ es) mine up =
      let last = register_of (last_or (Some y) es) in
      let X = at x in
      let Y = at y in
      let covered : Y ≡ J X Y = rw (mine.0, mine.1.0) (ap Some (sym (second x y mine.0 mine.1.0 up.0.0))) in
      on eq e (ord_max register_order) j last (J Y (G es)) (J X (J Y (G es))) (last_gathers (y ∷ es) mine.1 up.1)
      (on eq e (ord_max register_order) j (J Y (G es)) (J (J X Y) (G es)) (J X (J Y (G es)))
      (cong eq e (ord_max register_order) j Y (J X Y) (G es) (G es) (along eq e (ord_max register_order) j Y (J X Y) covered) (same eq e (ord_max register_order) j (G es)))
      (assoc eq e (ord_max register_order) j X Y (G es)))

  -- what has the row of the last entry has its register
  tells_last : (found : Option Register) (last : Option (Key × Register)) → option_map (entry_row_of (string_bytes k)) found ≡ option_map entry_row last → E found (register_of last)
  tells_last None None h = tt
  tells_last None (Some s) h = absurd (let z = h in cc)
  tells_last (Some r) None h = absurd (let z = h in cc)
  tells_last (Some r) (Some s) h =
      let row : entry_row (k, r) ≡ entry_row s = cc in
      ties r s.1 ∙ ap is_eq (then_tied (text_order k s.0) (register_order r s.1) (one_row (k, r) s row)).1

  -- what is found is what the rows in memory have
  pub found_kept : (writer : List ℕ) (trees : Trees) (rows : List (Key × Register)) (found : Option Register) → HoldsLatest eq (ord_max register_order) writer trees rows
      → IsLatestAt trees (string_bytes k) found → E found (get text_order rows k)
  found_kept writer trees rows found kept latest =
      let es = kept.entries in
      let mine = filter is_mine es in
      let last = last_or None mine in
      let own : rows_of (string_bytes k) (trees 0) ≡ map entry_row mine = ap (rows_of (string_bytes k)) kept.held.rows ∙ rows_are es in
      let row = sym latest ∙ ap (last_or None) own ∙ last_row None mine in
      let gathers : E (register_of last) (G es) = subst (E (register_of last)) (gather_mine es)
      (last_gathers mine (recursion_from_All _ _ (filter_passes is_mine es)) (ascending-filter _ is_mine es kept.held.ascending)) in
      on eq e (ord_max register_order) j found (register_of last) (get text_order rows k) (tells_last found last row)
      (on eq e (ord_max register_order) j (register_of last) (G es) (get text_order rows k) gathers (back eq e (ord_max register_order) j (get text_order rows k) (G es) (kept.gathered.values k)))
