-- What the table of entries has for each key after a row is put at its place, and the digest of a register by its row.
use Rattle.std.proofs.Common.{◌≡◌, ℕ, Bool, true, false, if◌then◌else◌, List, [], ◌∷◌, ◌++◌, length, Option, Some, None, option_map, string_bytes, Ordering, Less, Equal, Greater, is_eq, refl, sym, ap, subst, ◌∙◌, true≢false}
use Rattle.std.specs.Prelude.{pos}
use Rattle.std.specs.Cmp.{tied_itself}
use Rattle.std.specs.Int.{w64, to_le_bytes}
use Rattle.std.specs.List.{filter, last_or}
use Rattle.std.specs.Ordering.{match_ordering}
use Rattle.std.specs.Cmp.Lexicographic.{nat_list_cmp_total}
use Rattle.merkle_digest.specs.SipHash.{siphash128}
use Rattle.sqlite_value.specs.declared.value.Value.{Value as Cell}
use Rattle.sqlite_value.specs.declared.value.Value.TheVariants.{Int, Text as Words, Blob}
use Rattle.sqlite_value.specs.Keys.{plain, entry_cmp}
use Rattle.sqlite_value.specs.Order.{Row, column, value_cmp}
use Rattle.sqlite_value.proofs.KeyLemmas.{first_key-plain, then_tied}
use Rattle.sqlite_value.proofs.OrderLemmas.{value_cmp-Text}
use Rattle.sqlite_trees.specs.Tree.{insert_entry}
use Rattle.store_file.specs.Entries.{entry_row_of, value_cell}
use Rattle.store_file.specs.Latest.{rows_of}
use Rattle.store_file.specs.RegisterBytes.{register_bytes, value_bytes}
use Rattle.store_file.specs.declared.register.Register.{Register}
use Rattle.store_file.specs.declared.value.Value.{Value}
use Rattle.store_file.specs.declared.value.Value.TheVariants.{Text, Bytes}
use Rattle.store_tree.specs.Cells.{bytes_order}
use Rattle.store_tree.proofs.Places.{filter_insert_other}
use Rattle.store_rows.specs.Digests.{register_digest}

-- ---- the digest of a register, by its row

-- the bytes of a text or a BLOB
abbrev cell_bytes : Cell → List ℕ
cell_bytes (Words text) = text
cell_bytes (Blob bytes) = bytes
cell_bytes other = []

-- the number in a cell
abbrev cell_time : Cell → ℕ
cell_time (Int (pos n)) = n
cell_time other = 0

-- what a cell says as a value: the bytes of a register's value
abbrev cell_said : Cell → List ℕ
cell_said (Words text) = 1 ∷ text
cell_said (Blob bytes) = 2 ∷ bytes
cell_said other = 0 ∷ []

-- the bytes of the register that a row has
abbrev row_bytes : Row → List ℕ
row_bytes row =
    let writer = cell_bytes (column row 2) in
    to_le_bytes w64 (cell_time (column row 1)) ++ (to_le_bytes w64 (length writer) ++ (writer ++ cell_said (column row 3)))

-- the digest of the register that a row has, where there is one
abbrev pub row_digest : List ℕ → Option Row → List ℕ
row_digest hash_key None = []
row_digest hash_key (Some row) = siphash128 hash_key (row_bytes row)

said_is : (said : Option Value) → cell_said (value_cell said) ≡ value_bytes said
said_is None = refl
said_is (Some (Text text)) = refl
said_is (Some (Bytes bytes)) = refl

row_is : (key : List ℕ) (r : Register) → row_bytes (entry_row_of key r) ≡ register_bytes r
row_is key r = ap (λ said. to_le_bytes w64 r.time ++ (to_le_bytes w64 (length (string_bytes r.writer)) ++ (string_bytes r.writer ++ said))) (said_is r.value)

-- where a last row is there and is that of what was found, its digest is that of the register
pub digest_told : (hash_key key : List ℕ) (last : Option Row) (found : Option Register) → last ≡ option_map (entry_row_of key) found → (last ≡ None → ⊥)
    → Some (row_digest hash_key last) ≡ option_map (register_digest hash_key) found
digest_told hash_key key last None is there = absurd (there is)
digest_told hash_key key last (Some r) is there =
    ap (λ l. Some (row_digest hash_key l)) is ∙ ap (λ bytes. Some (siphash128 hash_key bytes)) (row_is key r)

-- ---- the rows of a key, after a row was put in place

some_last : (row : Row) (rows : List Row) → last_or (Some row) rows ≡ None → ⊥
some_last row [] is = let k = is in cc
some_last row (x ∷ rows) is = some_last x rows is

-- rows without a last one are none
pub no_last : (rows : List Row) → last_or None rows ≡ None → rows ≡ []
no_last [] is = refl
no_last (row ∷ rows) is = absurd (some_last row rows is)

none_pass : (test : Row → Bool) (row : Row) (rows : List Row) → filter test (row ∷ rows) ≡ [] → (test row ≡ false) × (filter test rows ≡ [])
none_pass test row rows = by (test row)
  where
    by : (b : Bool) → (if b then (row ∷ filter test rows) else (filter test rows)) ≡ [] → (b ≡ false) × (filter test rows ≡ [])
    by true is = absurd (let k = is in cc)
    by false is = (refl, is)

module _ (key : List ℕ) (r : Register) where
  abbrev is_mine : Row → Bool
  is_mine row = is_eq (value_cmp (column row 0) (Words key))

  -- the rows of another key are as they were
  pub others_stay : (other : List ℕ) (rows : List Row) → is_eq (bytes_order key other) ≡ false → rows_of other (insert_entry plain (entry_row_of key r) rows) ≡ rows_of other rows
  others_stay other rows apart =
      filter_insert_other (λ row. is_eq (value_cmp (column row 0) (Words other))) (entry_row_of key r) rows (ap is_eq (value_cmp-Text key other) ∙ apart)

  own : is_mine (entry_row_of key r) ≡ true
  own = ap is_eq (value_cmp-Text key key ∙ tied_itself nat_list_cmp_total key)

  tied : (row : Row) → entry_cmp plain row (entry_row_of key r) ≡ Equal → is_mine row ≡ true
  tied [] h = absurd (let k = h in cc)
  tied (cell ∷ row) h =
      ap is_eq (then_tied (value_cmp cell (Words key)) (entry_cmp plain row (Int (pos r.time) ∷ Words (string_bytes r.writer) ∷ value_cell r.value ∷ []))
      (subst (λ o. o ≡ Equal) (rw first_key-plain refl) h)).0

  -- the key has a row
  pub own_there : (rows : List Row) → rows_of key (insert_entry plain (entry_row_of key r) rows) ≡ [] → ⊥
  own_there [] is = true≢false (sym own ∙ (none_pass is_mine (entry_row_of key r) [] is).0)
  own_there (row ∷ rows) is = by (entry_cmp plain row (entry_row_of key r)) refl (own_there rows) is
    where
      by : (o : Ordering) → entry_cmp plain row (entry_row_of key r) ≡ o → (rows_of key (insert_entry plain (entry_row_of key r) rows) ≡ [] → ⊥)
          → rows_of key (match_ordering o (row ∷ insert_entry plain (entry_row_of key r) rows) (row ∷ rows) (entry_row_of key r ∷ row ∷ rows)) ≡ [] → ⊥
      by Less t rest none = rest (none_pass is_mine row (insert_entry plain (entry_row_of key r) rows) none).1
      by Equal t rest none = true≢false (sym (tied row t) ∙ (none_pass is_mine row rows none).0)
      by Greater t rest none = true≢false (sym own ∙ (none_pass is_mine (entry_row_of key r) (row ∷ rows) none).0)
