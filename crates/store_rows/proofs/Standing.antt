-- Calls after which a log and its tree still stand in step.
use Rattle.std.proofs.Common.{◌≡◌, ◌⊎◌, inl, inr, ◌∙◌, ℕ, List, None, Result, Ok, Err, option_map, string_bytes, sym, subst, arith}
use Rattle.std.specs.List.{last_or}
use Rattle.sqlite_value.specs.Order.{Row}
use Rattle.sqlite_trees.specs.declared.store.Store.{Ghosts}
use Rattle.sqlite_trees.specs.Tree.{Trees}
use Rattle.store_file.specs.Entries.{entry_row_of}
use Rattle.store_file.specs.Latest.{rows_of}
use Rattle.store_file.specs.Logs.{IsClean, Leaves, OnlyReads, trees_of}
use Rattle.store_file.specs.declared.catalog.TheConstants.{CELLS}
use Rattle.store_file.proofs.Calls.{Succeeds}
use Rattle.store_tree.specs.Cells.{HoldsCells}
use Rattle.store_tree.specs.Texts.{bytes_map}
use Rattle.store_rows.specs.Digests.{key_level}
use Rattle.store_rows.specs.InStep.{IsInStep, StandsInStep, StaysInStep}

module _ {S A E : Type 0} (g : Ghosts S) (hash_key : List ℕ) (old new : S) (result : Result A E) where
  -- after a call that only reads
  pub reads_stand : OnlyReads g old new result → StandsInStep g hash_key old → StandsInStep g hash_key new
  reads_stand reads stood clean opened = subst (IsInStep hash_key) (sym (same result reads)) (stood (omega (arith, reads.steady.clean, clean)) (reads.steady.was_open clean opened))
    where
      same : (r : Result A E) → OnlyReads g old new r → trees_of g new ≡ trees_of g old
      same (Ok x) reads = reads.unchanged clean
      same (Err why) reads = reads.refused clean opened

-- a crash during a call that writes, after one that only read and succeeded
pub leaves_then : {S A E : Type 0} (g : Ghosts S) (old mid new : S) (first : Result A E) (Is : Trees → Trees → Type 0) → OnlyReads g old mid first → Succeeds first
    → Leaves g mid new Is → Leaves g old new Is
leaves_then g old mid new (Ok x) Is was ok leaves trees left = by (leaves trees left)
  where
    by : (IsClean g mid × Is (trees_of g mid) trees) ⊎ g.recovers mid trees → (IsClean g old × Is (trees_of g old) trees) ⊎ g.recovers old trees
    by (inl at) = inl (omega (arith, was.steady.clean, at.0), subst (λ (t : Trees). Is t trees) (was.unchanged at.0) at.1)
    by (inr r) = inr (was.crash trees r)
leaves_then g old mid new (Err why) Is was ok leaves trees left = absurd ok

-- the same entries and the same cells are in step as before
pub same_tables_stay : (hash_key : List ℕ) (old new : Trees) → new 0 ≡ old 0 → new CELLS ≡ old CELLS → StaysInStep hash_key old new
same_tables_stay hash_key old new same_entries same_cells was = record {
  entries = was.entries;
  held = record { rows = same_entries ∙ was.held.rows; ascending = was.held.ascending };
  pairs = was.pairs;
  tree = record {
    digests = record {
      ascending = was.tree.digests.ascending;
      digests = λ key found latest. was.tree.digests.digests key found
          (subst (λ (rows : List Row). last_or None (rows_of (string_bytes key) rows) ≡ option_map (entry_row_of (string_bytes key)) found) same_entries latest);
    };
    cells = subst (HoldsCells (key_level hash_key) (bytes_map was.pairs)) (sym same_cells) was.tree.cells;
  };
}
