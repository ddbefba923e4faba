-- The rows of a table that holds entries.
use Rattle.std.proofs.Common.{◌≡◌, ℕ, List, [], ◌∷◌, ◌++◌, map, Option, Some, None, option_map, string_bytes, Equal, refl, sym, ap, subst, ◌∙◌, append_assoc, append-nil, is_eq, true}
use Rattle.std.specs.Cmp.{tied_itself}
use Rattle.std.specs.List.{last_or}
use Rattle.std.specs.String.{string_cmp_total}
use Rattle.key_order.specs.Map.{IsMap, SameMap, SameValue, get, set}
use Rattle.key_order.specs.Text.{Text, text_order}
use Rattle.key_order.proofs.Maps.{same_by_get}
use Rattle.key_order.proofs.Sets.{ascending_set, get_set}
use Rattle.sqlite_trees.specs.Tree.{Trees}
use Rattle.sqlite_value.specs.Order.{Row}
use Rattle.sqlite_value.specs.Keys.{plain, entry_cmp}
use Rattle.sqlite_value.proofs.KeyLemmas.{entry_cmp_total, then_tied}
use Rattle.store_file.specs.Entries.{entry_order, entry_row, entry_row_of, HoldsEntries}
use Rattle.store_file.specs.Latest.{IsLatestAt, rows_of}
use Rattle.store_file.specs.Ranges.{HasSet}
use Rattle.store_file.specs.Registers.{register_order}
use Rattle.store_file.specs.contracts.register.RegisterOrd.TheImpl.Laws.{matches_eq-law}
use Rattle.store_file.specs.declared.catalog.TheConstants.{CELLS}
use Rattle.store_file.specs.declared.register.Register.{Register}
use Rattle.store_file.proofs.OrderOfEntries.{row_order}
use Rattle.store_file.proofs.Ranging.{KeepsLast, keeps_more}
use Rattle.store_tree.specs.Cells.{HoldsCells, KeyDigests}
use Rattle.store_tree.specs.Texts.{bytes_map}
use Rattle.store_rows.specs.Digests.{AreLatestDigests, AreLatestRows, AreOneRegister, TextDigests, TextRows, digest_rows, key_level}
use Rattle.store_side.specs.FileTrees.{HasTreeOf}
use Rattle.store_rows.proofs.Holding.{alike, latest_digests, same_bytes}

-- ---- the rows that entries leave

-- after entries, rows have the last register of each key
record HasLast (entries : TextRows) : Type 0 where
  pub rows : TextRows
  pub keeps : KeepsLast entries rows
  pub ascending : IsMap text_order rows

last_of : (seen rest rows : TextRows) → KeepsLast seen rows → IsMap text_order rows → HasLast (seen ++ rest)
last_of seen [] rows keeps up = record { rows = rows; keeps = subst (λ es. KeepsLast es rows) (sym (append-nil seen)) keeps; ascending = up }
last_of seen (e ∷ rest) rows keeps up =
    let next = set text_order rows e.0 e.1 in
    let has : HasSet rows e next =
    record { ascending = λ was. ascending_set text_order string_cmp_total rows e.0 e.1 was; set = λ was key. get_set text_order string_cmp_total rows e.0 e.1 key (Some e.1) refl } in
    subst (λ es. HasLast es) (append_assoc seen (e ∷ []) rest) (last_of (seen ++ e ∷ []) rest next (keeps_more seen rows next e keeps up has) (has.ascending up))

-- ---- one register

one_row : (r s : Text × Register) → entry_row r ≡ entry_row s → entry_order r s ≡ Equal
one_row r s h = sym (row_order r s) ∙ subst (λ row. entry_cmp plain (entry_row r) row ≡ Equal) h (tied_itself (entry_cmp_total plain) (entry_row r))

-- registers with one row are equal
same_of_rows : (key : Text) (a b : Option Register) → option_map (entry_row_of (string_bytes key)) a ≡ option_map (entry_row_of (string_bytes key)) b → AreOneRegister a b
same_of_rows key None None one = tt
same_of_rows key None (Some s) one = absurd (let e = one in cc)
same_of_rows key (Some r) None one = absurd (let e = one in cc)
same_of_rows key (Some r) (Some s) one =
    let row : entry_row (key, r) ≡ entry_row (key, s) = cc in
    matches_eq-law r s ∙ ap is_eq (then_tied (text_order key key) (register_order r s) (one_row (key, r) (key, s) row)).1

-- ---- rows of a file

module _ (hash_key : List ℕ) (trees : Trees) (entries : TextRows) (pairs : TextDigests) (held : HoldsEntries trees entries) (are : AreLatestDigests hash_key trees pairs) where
  last : HasLast entries
  last = last_of [] entries [] (λ k. refl) tt

  latest : (key : Text) → IsLatestAt trees (string_bytes key) (get text_order last.rows key)
  latest key = ap (λ (rows : List Row). last_or None (rows_of (string_bytes key) rows)) held.rows ∙ last.keeps key

  have_latest : AreLatestRows trees last.rows
  have_latest = record { ascending = last.ascending; latest = λ key found is. same_of_rows key found (get text_order last.rows key) (sym is ∙ latest key) }

  one_map : bytes_map pairs ≡ bytes_map (digest_rows hash_key last.rows)
  one_map = same_bytes pairs (digest_rows hash_key last.rows) (same_by_get text_order string_cmp_total (λ x y. x ≡ y) pairs (digest_rows hash_key last.rows) are.ascending own.ascending
      (λ key. alike (get text_order pairs key) (get text_order (digest_rows hash_key last.rows) key)
      (are.digests key (get text_order last.rows key) (latest key) ∙ sym (own.digests key (get text_order last.rows key) (latest key)))))
    where
      own : AreLatestDigests hash_key trees (digest_rows hash_key last.rows)
      own = latest_digests hash_key trees last.rows have_latest

-- where the table of entries holds entries, and the table of cells has the gaps of the tree of the latest digests, there are rows of which it is the tree
pub entries_have_rows : (hash_key : List ℕ) (trees : Trees) (entries : TextRows) (pairs : TextDigests) → HoldsEntries trees entries → AreLatestDigests hash_key trees pairs
    → HoldsCells (key_level hash_key) (bytes_map pairs) (trees CELLS) → (rows : TextRows) × HasTreeOf hash_key rows trees
entries_have_rows hash_key trees entries pairs held are cells = (
  (last hash_key trees entries pairs held are).rows,
  record {
    latest = have_latest hash_key trees entries pairs held are;
    cells = subst (λ (m : KeyDigests). HoldsCells (key_level hash_key) m (trees CELLS)) (one_map hash_key trees entries pairs held are) cells;
  },
)
