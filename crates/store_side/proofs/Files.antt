-- What calls leave of a store's file that has the tree of its latest registers.
use Rattle.std.specs.Prelude.{⊤}
use Rattle.std.proofs.Common.{◌≡◌, ℕ, Bool, true, false, List, length, None, option_map, string_bytes, Result, Ok, Err, OnOk, OnErr, IfOk, IsTrue, refl, sym, ap, subst, ◌∙◌, arith}
use Rattle.std.proofs.lemmas.List.{length-map}
use Rattle.std.specs.List.{last_or}
use Rattle.sqlite_value.specs.Order.{Row}
use Rattle.sqlite_trees.specs.Tree.{Trees}
use Rattle.sqlite_trees.specs.View.{View, IsRolledBack}
use Rattle.sqlite_trees.specs.declared.store.Store.{Ghosts}
use Rattle.store_file.specs.Entries.{entry_row_of}
use Rattle.store_file.specs.Latest.{rows_of}
use Rattle.store_file.specs.Logs.{IsClean, IsOpen, trees_of}
use Rattle.store_file.specs.Transactions.{CommitsNothing, StaysQuiet}
use Rattle.store_file.specs.Walks.{StaysBut}
use Rattle.store_file.specs.declared.catalog.TheConstants.{CELLS}
use Rattle.store_tree.specs.Calls.{CountsKeys, FindsInTree}
use Rattle.store_tree.specs.Maps.{bytes_pair}
use Rattle.store_tree.specs.Tables.{KeepsOthers}
use Rattle.store_tree.specs.Texts.{bytes_map}
use Rattle.merkle_tree_theory.specs.Tree.{Tree}
use Rattle.merkle_tree_theory.specs.TreeOf.{tree_of}
use Rattle.store_rows.specs.Digests.{AreLatestRows, HoldsDigests, TextDigests, TextRows, digest_row, digest_rows, key_level}
use Rattle.store_side.specs.FileTrees.{HasTreeOf, IsFileOf}
use Rattle.store_rows.proofs.Holding.{latest_digests}
use Rattle.store_rows.proofs.TakenBack.{open_if_sound}

-- where no table but that of cells has changed, rows still have the latest registers
latest_stay : (rows : TextRows) (old new : Trees) → KeepsOthers old new → AreLatestRows old rows → AreLatestRows new rows
latest_stay rows old new others are = record {
  ascending = are.ascending;
  latest = λ key found latest. are.latest key found
      (subst (λ (of_table : List Row). last_or None (rows_of (string_bytes key) of_table) ≡ option_map (entry_row_of (string_bytes key)) found) (others 0 (λ same. omega (arith, same))) latest);
}

module _ {A : Type 0} (hash_key : List ℕ) (rows : TextRows) (Is : A → Tree (List ℕ) (List ℕ) → Type 0) (old new : Trees) (found : A)
    (finds : FindsInTree (HoldsDigests hash_key) Is old new found) (has : HasTreeOf hash_key rows old) where
  abbrev pairs : TextDigests
  pairs = digest_rows hash_key rows

  -- a search in the tree leaves it
  pub tree_stays : KeepsOthers old new → HasTreeOf hash_key rows new
  tree_stays others = record {
    latest = latest_stay rows old new others has.latest;
    cells = (finds (key_level hash_key) (bytes_map pairs) has.cells (pairs, latest_digests hash_key old rows has.latest, refl)).0;
  }

  -- and its answer is of the tree
  pub tree_found : Is found (tree_of (key_level hash_key) (bytes_map (digest_rows hash_key rows)))
  tree_found = (finds (key_level hash_key) (bytes_map pairs) has.cells (pairs, latest_digests hash_key old rows has.latest, refl)).1

-- what is so of a call that succeeds, by its settled result
same_ok : {A E : Type 0} (P : Type 0) (result done : Result A E) → result ≡ done → OnOk done P → OnOk result P
same_ok {A} {E} P result done same so = subst (λ (r : Result A E). OnOk r P) (sym same) so

module _ {S : Type 0} (g : Ghosts S) (broken_if_shut : (s : S) → (g.view s).is_open ≡ false → IsTrue (g.view s).is_broken) where
  module _ (old mid : S) (uncommitted : CommitsNothing g old mid) where
    first : IsClean g mid → IsClean g old
    first clean = omega (arith, uncommitted.quiet.clean, clean)

    module _ (hash_key : List ℕ) (rows : TextRows) (was : IsFileOf hash_key rows g old) where
      -- after a call that succeeds
      ok_keeps : (IsClean g old → (g.view old).is_broken ≡ false) → (IsClean g mid → HasTreeOf hash_key rows (trees_of g old) → HasTreeOf hash_key rows (trees_of g mid))
          → IsFileOf hash_key rows g mid
      ok_keeps sound stays = record {
        entries = λ clean. ap (λ shape. shape 0) uncommitted.schema.shape ∙ was.entries (first clean);
        cells = λ clean. ap (λ shape. shape CELLS) uncommitted.schema.shape ∙ was.cells (first clean);
        settled = λ clean. uncommitted.schema.shape ∙ was.settled (first clean) ∙ sym uncommitted.schema.committed_shape;
        shown = λ clean still. stays clean (was.shown (first clean) (sound (first clean)));
        committed = λ clean opened. subst (λ trees. HasTreeOf hash_key rows trees) (sym ((uncommitted.kept clean).committed opened))
            (was.committed (first clean) ((uncommitted.kept clean).was_open opened));
      }

      -- after an error, once what was written is taken back
      module _ (new : S) (back : IsRolledBack (g.view mid) (g.view new)) (quiet : StaysQuiet g mid new) where
        early : IsClean g new → IsClean g mid
        early clean = omega (arith, quiet.clean, clean)

        shape_kept : IsClean g new → (g.view new).shape ≡ (g.view old).shape
        shape_kept clean =
            back.shape (uncommitted.schema.shape ∙ was.settled (first (early clean)) ∙ sym uncommitted.schema.committed_shape) ∙ uncommitted.schema.shape

        mid_open : IsClean g new → IsOpen g new → IsOpen g mid
        mid_open clean opened = (back.kept clean).was_open opened

        mid_has : IsClean g new → IsOpen g new → HasTreeOf hash_key rows (g.view mid).committed
        mid_has clean opened =
            let kept = uncommitted.kept (early clean) in
            subst (λ trees. HasTreeOf hash_key rows trees) (sym (kept.committed (mid_open clean opened)))
            (was.committed (first (early clean)) (kept.was_open (mid_open clean opened)))

        err_keeps : IsFileOf hash_key rows g new
        err_keeps = record {
          entries = λ clean. ap (λ shape. shape 0) (shape_kept clean) ∙ was.entries (first (early clean));
          cells = λ clean. ap (λ shape. shape CELLS) (shape_kept clean) ∙ was.cells (first (early clean));
          settled = λ clean. shape_kept clean ∙ was.settled (first (early clean)) ∙ sym (back.committed_shape ∙ uncommitted.schema.committed_shape);
          shown = λ clean sound.
              let opened = open_if_sound g broken_if_shut new sound in
              subst (λ trees. HasTreeOf hash_key rows trees) (sym (back.undone opened).0) (mid_has clean opened);
          committed = λ clean opened. subst (λ trees. HasTreeOf hash_key rows trees) (sym ((back.kept clean).committed opened)) (mid_has clean opened);
        }

    -- a call, whose writes are taken back where it fails
    module _ {A E : Type 0} (new : S) where
      pub settled_keeps : (result done : Result A E) → result ≡ done → OnOk result (new ≡ mid) → OnErr result (IsRolledBack (g.view mid) (g.view new)) → OnErr result (StaysQuiet g mid new)
          → (IsClean g old → (g.view old).is_broken ≡ false) → (hash_key : List ℕ) (rows : TextRows)
          → OnOk done (IsClean g mid → HasTreeOf hash_key rows (trees_of g old) → HasTreeOf hash_key rows (trees_of g mid))
          → IsFileOf hash_key rows g old → IsFileOf hash_key rows g new
      settled_keeps (Ok x) done same kept back quiet sound hash_key rows stays was =
          let here = same_ok (IsClean g mid → HasTreeOf hash_key rows (trees_of g old) → HasTreeOf hash_key rows (trees_of g mid)) (Ok x) done same stays in
          subst (λ s. IsFileOf hash_key rows g s) (sym kept) (ok_keeps hash_key rows was sound here)
      settled_keeps (Err why) done same kept back quiet sound hash_key rows stays was = err_keeps hash_key rows was new back quiet

      pub settled_clean : (result : Result A E) → OnOk result (new ≡ mid) → OnErr result (StaysQuiet g mid new) → IsClean g new → IsClean g old
      settled_clean (Ok x) kept quiet clean = first (subst (λ s. IsClean g s) kept clean)
      settled_clean (Err why) kept quiet clean = first (omega (arith, quiet.clean, clean))

      -- what it found, it found in the tree
      pub settled_tells : (result done : Result A E) → result ≡ done → OnOk result (new ≡ mid) → (IsClean g old → (g.view old).is_broken ≡ false)
          → (hash_key : List ℕ) (Found : A → Type 0) (Is : TextRows → A → Type 0) → (IsClean g mid → IfOk done Found)
          → ((x : A) → Found x → (rows : TextRows) → HasTreeOf hash_key rows (trees_of g old) → Is rows x)
          → IsClean g new → IfOk result (λ x. (rows : TextRows) → IsFileOf hash_key rows g old → Is rows x)
      settled_tells (Ok x) done same kept sound hash_key Found Is found tells clean =
          let mid_clean : IsClean g mid = subst (λ s. IsClean g s) kept clean in
          let here : Found x = subst (λ (r : Result A E). IfOk r Found) (sym same) (found mid_clean) in
          λ rows was. tells x here rows (was.shown (first mid_clean) (sound (first mid_clean)))
      settled_tells (Err why) done same kept sound hash_key Found Is found tells clean = tt

-- a call that only moves cursors leaves the tree
pub reads_stay : {S A E : Type 0} (g : Ghosts S) (old mid : S) (done : Result A E) → OnOk done (IsClean g mid → StaysBut (g.view old) (g.view mid))
    → (hash_key : List ℕ) (rows : TextRows) → OnOk done (IsClean g mid → HasTreeOf hash_key rows (trees_of g old) → HasTreeOf hash_key rows (trees_of g mid))
reads_stay g old mid (Ok x) same hash_key rows = λ clean has. subst (λ trees. HasTreeOf hash_key rows trees) (sym (ap (λ (v : View). v.trees) (same clean))) has
reads_stay g old mid (Err why) same hash_key rows = tt

-- so does a search in the tree
pub search_stays : {S A E : Type 0} (g : Ghosts S) (old mid : S) (done : Result A E) (hash_key : List ℕ) (Is : A → Tree (List ℕ) (List ℕ) → Type 0)
    → (IsClean g mid → IfOk done (FindsInTree (HoldsDigests hash_key) Is (trees_of g old) (trees_of g mid)))
    → (IsClean g mid → OnOk done (KeepsOthers (trees_of g old) (trees_of g mid)))
    → (rows : TextRows) → OnOk done (IsClean g mid → HasTreeOf hash_key rows (trees_of g old) → HasTreeOf hash_key rows (trees_of g mid))
search_stays g old mid (Ok found) hash_key Is finds others rows = λ clean has. tree_stays hash_key rows Is (trees_of g old) (trees_of g mid) found (finds clean) has (others clean)
search_stays g old mid (Err why) hash_key Is finds others rows = tt

-- and so does a count of its keys
pub count_stays : {S E : Type 0} (g : Ghosts S) (old mid : S) (done : Result ℕ E) (hash_key : List ℕ)
    → (IsClean g mid → IfOk done (CountsKeys (HoldsDigests hash_key) (trees_of g old) (trees_of g mid)))
    → (IsClean g mid → OnOk done (KeepsOthers (trees_of g old) (trees_of g mid)))
    → (rows : TextRows) → OnOk done (IsClean g mid → HasTreeOf hash_key rows (trees_of g old) → HasTreeOf hash_key rows (trees_of g mid))
count_stays g old mid (Ok count) hash_key counts others rows =
    λ clean has. tree_stays hash_key rows (λ _ _. ⊤) (trees_of g old) (trees_of g mid) count (λ lev m h held. ((counts clean lev m h held).0, tt)) has (others clean)
count_stays g old mid (Err why) hash_key counts others rows = tt

-- there are as many keys as rows
pub rows_counted : (hash_key : List ℕ) (rows : TextRows) (old new : Trees) (count : ℕ) → CountsKeys (HoldsDigests hash_key) old new count → HasTreeOf hash_key rows old → count ≡ length rows
rows_counted hash_key rows old new count counts has =
    let pairs = digest_rows hash_key rows in
    (counts (key_level hash_key) (bytes_map pairs) has.cells (pairs, latest_digests hash_key old rows has.latest, refl)).1
    ∙ length-map pairs bytes_pair ∙ length-map rows (digest_row hash_key)
