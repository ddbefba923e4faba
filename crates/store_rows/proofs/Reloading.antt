-- All keys of a log are loaded into its tree anew.
use Rattle.std.proofs.Common.{◌≡◌, ℕ, List, [], ◌∷◌, map, None, string_bytes, refl, subst, ◌∙◌, ◌⊎◌, inl, inr, arith}
use Rattle.std.specs.List.{AllByRecursion}
use Rattle.key_order.specs.Order.{AnyByRecursion}
use Rattle.key_order.specs.Text.{Text}
use Rattle.merkle_tree_theory.proofs.InGaps.{all_within}
use Rattle.sqlite_trees.specs.Tree.{Trees}
use Rattle.sqlite_trees.proofs.ListLemmas.{all_weaker}
use Rattle.store_file.specs.Ranges.{AreLatestBetween}
use Rattle.store_file.specs.declared.catalog.TheConstants.{CELLS}
use Rattle.store_file.specs.declared.register.Register.{Register}
use Rattle.store_tree.specs.Cells.{bytes_order, HasKey, HoldsCells, KeyDigests}
use Rattle.store_tree.specs.Loads.{HasKeysOn, LoadsKeys}
use Rattle.store_tree.specs.Maps.{bytes_pair}
use Rattle.store_tree.specs.Tables.{KeepsOthers}
use Rattle.store_tree.specs.Texts.{bytes_map}
use Rattle.store_rows.specs.DigestLaws.{latest_stay}
use Rattle.store_rows.specs.Digests.{digest_row, key_level}
use Rattle.store_rows.specs.InStep.{StaysInStep}
use Rattle.store_rows.specs.Loads.{level_row}
use Rattle.store_rows.proofs.Holding.{pairs_held}
use Rattle.store_rows.proofs.Stepping.{key_low}

module _ (hash_key : List ℕ) where
  -- the bytes of rows' keys, each with the digest of its register
  abbrev digests_of : List (Text × Register) → KeyDigests
  digests_of rows = map bytes_pair (map (digest_row hash_key) rows)

  abbrev keys_of : List (Text × Register) → List (Text × ℕ)
  keys_of rows = map (level_row hash_key) rows

  levels_are : (rows : List (Text × Register)) → AllByRecursion (λ (key : Text × ℕ). key_level hash_key (string_bytes key.0) ≡ key.1) (keys_of rows)
  levels_are [] = tt
  levels_are (row ∷ rows) = (refl, levels_are rows)

  have_all : (rows : List (Text × Register)) → AllByRecursion (λ (key : Text × ℕ). HasKey (digests_of rows) (string_bytes key.0)) (keys_of rows)
  have_all [] = tt
  have_all (row ∷ rows) = (
    inl refl,
    all_weaker (λ (key : Text × ℕ). HasKey (digests_of rows) (string_bytes key.0)) (λ key. HasKey (digests_of (row ∷ rows)) (string_bytes key.0)) (λ key has. inr has) (keys_of rows) (have_all rows),
  )

  have_none_else : (rows : List (Text × Register)) → AllByRecursion (λ (p : List ℕ × List ℕ). AnyByRecursion (λ (key : Text × ℕ). string_bytes key.0 ≡ p.0) (keys_of rows)) (digests_of rows)
  have_none_else [] = tt
  have_none_else (row ∷ rows) = (
    inl refl,
    all_weaker (λ (p : List ℕ × List ℕ). AnyByRecursion (λ (key : Text × ℕ). string_bytes key.0 ≡ p.0) (keys_of rows))
        (λ p. AnyByRecursion (λ (key : Text × ℕ). string_bytes key.0 ≡ p.0) (keys_of (row ∷ rows))) (λ p any. inr any) (digests_of rows) (have_none_else rows),
  )

  have_keys : (rows : List (Text × Register)) → HasKeysOn (key_level hash_key) (keys_of rows) (digests_of rows)
  have_keys rows = record { levels = levels_are rows; all = have_all rows; no_other = have_none_else rows }

  -- where the keys of the latest rows are loaded, the log and its tree stay in step
  pub reloaded : (old new : Trees) (rows : List (Text × Register)) → AreLatestBetween None None old rows → LoadsKeys (keys_of rows) (new CELLS) → KeepsOthers old new → StaysInStep hash_key old new
  reloaded old new rows latest loads others was =
      let m = bytes_map was.pairs in
      let same : digests_of rows ≡ m = pairs_held None None hash_key old rows (map (digest_row hash_key) rows) latest refl m (was.pairs, was.tree.digests, refl) ∙ all_within bytes_order m in
      let entries : new 0 ≡ old 0 = others 0 (λ is. omega (arith, is)) in
      record {
        entries = was.entries;
        held = record { rows = entries ∙ was.held.rows; ascending = was.held.ascending };
        pairs = was.pairs;
        tree = record {
          digests = latest_stay hash_key was.pairs old new others was.tree.digests;
          cells = loads (key_level hash_key) m (key_low hash_key) was.tree.cells.ascending (subst (HasKeysOn (key_level hash_key) (keys_of rows)) same (have_keys rows));
        };
      }
