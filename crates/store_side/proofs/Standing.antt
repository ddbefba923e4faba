-- The trees of a log that stands in step are a file that has rows and the tree of their digests.
use Rattle.std.proofs.Common.{◌≡◌, Bool, true, false, ℕ, List, [], IsTrue, refl, sym, subst, ◌∙◌, true≢false}
use Rattle.sqlite_trees.specs.declared.store.Store.{Ghosts}
use Rattle.sqlite_trees.proofs.Doubt.{clean_of, no_doubt}
use Rattle.store_file.specs.Logs.{IsClean, IsLog, IsOpen, trees_of}
use Rattle.store_rows.specs.Digests.{TextRows}
use Rattle.store_side.specs.FileTrees.{HasTreeOf, IsFile, IsFileOf}
use Rattle.store_rows.specs.InStep.{StandsInStep}
use Rattle.store_side.proofs.Entries.{entries_have_rows}
use Rattle.store_rows.proofs.TakenBack.{open_if_sound}

module _ {S : Type 0} (g : Ghosts S) (broken_if_shut : (s : S) → (g.view s).is_open ≡ false → IsTrue (g.view s).is_broken)
    (hash_key : List ℕ) (trees : S) (log : IsLog g trees) where
  -- they are one of these rows, where they have the tree of them while they are clean and open
  file_of : (rows : TextRows) → (IsClean g trees → IsOpen g trees → HasTreeOf hash_key rows (trees_of g trees)) → IsFileOf hash_key rows g trees
  file_of rows has = record {
    entries = λ clean. (log.tables clean).entries;
    cells = λ clean. (log.tables clean).cells;
    settled = λ clean. (log.tables clean).settled;
    shown = λ clean sound. has clean (open_if_sound g broken_if_shut trees sound);
    committed = λ clean opened. subst (λ all. HasTreeOf hash_key rows all) (log.rest clean opened).settled (has clean opened);
  }

  -- so they are whatever became of the disk: of no rows, if it isn't clean or they are shut
  pub stands_as_file : StandsInStep g hash_key trees → IsFile g hash_key trees
  stands_as_file stands = by (g.view trees).is_clean refl (g.view trees).is_open refl
    where
      by : (clean : Bool) → (g.view trees).is_clean ≡ clean → (opened : Bool) → (g.view trees).is_open ≡ opened → IsFile g hash_key trees
      by true clean true opened =
          let there = stands (no_doubt (g.view trees).is_clean clean) opened in
          let found = entries_have_rows hash_key (trees_of g trees) there.entries there.pairs there.held there.tree.digests there.tree.cells in
          (found.0, file_of found.0 (λ _ _. found.1))
      by true clean false shut = ([], file_of [] (λ _ opened. absurd (true≢false (sym opened ∙ shut))))
      by false dirty opened is = ([], file_of [] (λ clean _. absurd (true≢false (sym (clean_of (g.view trees).is_clean clean) ∙ dirty))))
