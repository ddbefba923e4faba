-- One entry is added to a log, and its key is set in the map of its latest registers.
use Rattle.std.proofs.Common.{◌≡◌, ◌<◌, ℕ, Bool, true, false, cond, List, [], ◌∷◌, Option, Some, None, option_map, string_bytes, Ordering, Less, Equal, Greater, is_eq, refl, sym, ap, subst, ◌∙◌, arith}
use Rattle.std.specs.List.{last_or}
use Rattle.std.specs.Ordering.{match_ordering}
use Rattle.std.specs.String.{string_cmp_total}
use Rattle.key_order.specs.Map.{get, set}
use Rattle.key_order.specs.Text.{Text, text_order}
use Rattle.key_order.proofs.Sets.{ascending_set, get_set}
use Rattle.merkle_digest.specs.SipHash.{siphash128}
use Rattle.merkle_tree_theory.proofs.Sound.{level_low}
use Rattle.sqlite_value.specs.Order.{Row}
use Rattle.sqlite_trees.specs.Tree.{Trees}
use Rattle.store_file.specs.Changes.{HasOneMore}
use Rattle.store_file.specs.Entries.{HoldsEntries, entry_row_of}
use Rattle.store_file.specs.Latest.{rows_of, IsLatestAt}
use Rattle.store_file.specs.declared.catalog.TheConstants.{CELLS}
use Rattle.store_file.specs.declared.register.Register.{Register}
use Rattle.store_file.proofs.Inserting.{holds_more}
use Rattle.store_tree.specs.Calls.{WritesKey}
use Rattle.store_tree.specs.Cells.{bytes_order, HoldsCells}
use Rattle.store_tree.specs.Maps.{bytes_pair}
use Rattle.store_tree.specs.Tables.{KeepsOthers}
use Rattle.store_tree.specs.Texts.{bytes_map}
use Rattle.store_tree.proofs.Sets.{same_key}
use Rattle.store_rows.specs.Digests.{register_digest, key_level, AreLatestDigests}
use Rattle.store_rows.specs.InStep.{IsInStep, StaysInStep}
use Rattle.store_rows.proofs.Setting.{row_digest, digest_told, no_last, others_stay, own_there}

-- the bytes of a map with a key set
set_bytes : (m : List (Text × List ℕ)) (key : Text) (digest : List ℕ) → bytes_map (set text_order m key digest) ≡ set bytes_order (bytes_map m) (string_bytes key) digest
set_bytes [] key digest = refl
set_bytes (p ∷ ps) key digest = by (text_order key p.0) (set_bytes ps key digest)
  where
    by : (o : Ordering) → bytes_map (set text_order ps key digest) ≡ set bytes_order (bytes_map ps) (string_bytes key) digest
        → bytes_map (match_ordering o ((key, digest) ∷ p ∷ ps) ((p.0, digest) ∷ ps) (p ∷ set text_order ps key digest))
        ≡ match_ordering o ((string_bytes key, digest) ∷ bytes_map (p ∷ ps)) ((string_bytes p.0, digest) ∷ bytes_map ps) (bytes_pair p ∷ set bytes_order (bytes_map ps) (string_bytes key) digest)
    by Less rest = refl
    by Equal rest = refl
    by Greater rest = ap (λ qs. bytes_pair p ∷ qs) rest

-- trees whose table of entries has no row for any key, and whose cells are the gaps of the map without keys, are in step
pub begun : (hash_key : List ℕ) (trees : Trees) → trees 0 ≡ [] → HoldsCells (key_level hash_key) [] (trees CELLS) → IsInStep hash_key trees
begun hash_key trees none cells = record {
  entries = [];
  held = record { rows = none; ascending = tt };
  pairs = [];
  tree = record {
    digests = record {
      ascending = tt;
      digests = λ key found latest. by (string_bytes key) found (ap (λ (rows : List Row). last_or None (rows_of (string_bytes key) rows)) (sym none) ∙ latest);
    };
    cells = cells;
  };
}
  where
    by : (bytes : List ℕ) (found : Option Register) → None ≡ option_map (entry_row_of bytes) found → None ≡ option_map (register_digest hash_key) found
    by bytes None is = refl
    by bytes (Some r) is = absurd (let k = is in cc)

-- levels are below 256
pub key_low : (hash_key key : List ℕ) → key_level hash_key key < 256
key_low hash_key key = level_low (siphash128 hash_key key) 16

module _ (hash_key : List ℕ) (key : Text) (r : Register) (old mid new : Trees) (more : HasOneMore (string_bytes key) r old mid) (others : KeepsOthers mid new) where
  -- the last row of the key, after the entry was added
  abbrev last : Option Row
  last = last_or None (rows_of (string_bytes key) (mid 0))

  -- the digest of its register
  abbrev digest : List ℕ
  digest = row_digest hash_key last

  entries : new 0 ≡ mid 0
  entries = others 0 (λ same. omega (arith, same))

  -- the row of the key is there
  there : last ≡ None → ⊥
  there none = own_there (string_bytes key) r (old 0) (no_last _ (ap (λ (rows : List Row). last_or None (rows_of (string_bytes key) rows)) (sym more.entries) ∙ none))

  module _ (other : Text) (found : Option Register) (latest : IsLatestAt new (string_bytes other) found) where
    latest_mid : IsLatestAt mid (string_bytes other) found
    latest_mid = ap (λ (rows : List Row). last_or None (rows_of (string_bytes other) rows)) (sym entries) ∙ latest

    own : is_eq (text_order key other) ≡ true → Some digest ≡ option_map (register_digest hash_key) found
    own tied =
        let same : string_bytes key ≡ string_bytes other = same_key (string_bytes key) (string_bytes other) tied in
        digest_told hash_key (string_bytes key) last found (subst (λ bytes. IsLatestAt mid bytes found) (sym same) latest_mid) there

    foreign : is_eq (text_order key other) ≡ false → IsLatestAt old (string_bytes other) found
    foreign apart =
        ap (last_or None) (sym (others_stay (string_bytes key) r (string_bytes other) (old 0) apart))
        ∙ ap (λ (rows : List Row). last_or None (rows_of (string_bytes other) rows)) (sym more.entries) ∙ latest_mid

    got : (pairs : List (Text × List ℕ)) → AreLatestDigests hash_key old pairs → get text_order (set text_order pairs key digest) other ≡ option_map (register_digest hash_key) found
    got pairs are = get_set text_order string_cmp_total pairs key digest other (Some digest) refl ∙ by (is_eq (text_order key other)) refl
      where
        by : (b : Bool) → is_eq (text_order key other) ≡ b → cond b (Some digest) (get text_order pairs other) ≡ option_map (register_digest hash_key) found
        by true tied = own tied
        by false apart = are.digests other found (foreign apart)

  -- the table of entries still holds entries
  held : (es : List (Text × Register)) → HoldsEntries old es → (all : List (Text × Register)) × HoldsEntries new all
  held es was =
      let with_it = holds_more old mid es ((key, r) ∷ []) was more in
      (with_it.0, record { rows = entries ∙ with_it.1.rows; ascending = with_it.1.ascending })

  -- the key, on this level, is set in the gaps
  abbrev SetsKey : ℕ → Type 0
  SetsKey level = WritesKey level (string_bytes key) (mid CELLS) (new CELLS)

  -- with its key set, the map is that of the latest registers, and the rows of the table of cells are the gaps of it
  pub set_kept : (level : ℕ) → mid CELLS ≡ old CELLS → SetsKey level → level ≡ key_level hash_key (string_bytes key) → StaysInStep hash_key old new
  set_kept level cells writes on was = record {
    entries = (held was.entries was.held).0;
    held = (held was.entries was.held).1;
    pairs = set text_order was.pairs key digest;
    tree = record {
      digests = record {
        ascending = ascending_set text_order string_cmp_total was.pairs key digest was.tree.digests.ascending;
        digests = λ other found latest. got other found latest was.pairs was.tree.digests;
      };
      cells =
          subst (λ m. HoldsCells (key_level hash_key) m (new CELLS)) (sym (set_bytes was.pairs key digest))
          (writes (key_level hash_key) (bytes_map was.pairs) digest (subst (HoldsCells (key_level hash_key) (bytes_map was.pairs)) (sym cells) was.tree.cells) (sym on));
    };
  }
