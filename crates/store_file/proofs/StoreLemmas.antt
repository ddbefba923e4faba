-- What a store over the two files shows.
use Rattle.std.proofs.Common.{◌≡◌, ◌∙◌, false, IsTrue, refl, subst, sym, ap, ap₂}
use Rattle.std.proofs.Math.Logic.{∥∥₁_elim, ∥∥₁_map}
use Rattle.sqlite_disk.specs.declared.Disk.{Ghosts}
use Rattle.sqlite_disk.specs.declared.Files.{Files}
use Rattle.sqlite_wal.specs.Recovery.{Image}
use Rattle.sqlite_wal.specs.Reads.{OnlyReads, are_clean, AreClean}
use Rattle.sqlite_wal.proofs.LogLemmas.{SeenMayStay}
use Rattle.sqlite_wal.proofs.StateLemmas.{clean_of}
use Rattle.sqlite_pool.specs.Stored.{Recovers}
use Rattle.sqlite_pool.proofs.StateLemmas.{clean_is, size_is_allowed, settled, file_alone, may_leave_is}
use Rattle.sqlite_value.specs.Keys.{plain}
use Rattle.sqlite_trees.specs.declared.store.Shape.TheVariants.{Table, Index}
use Rattle.sqlite_trees.specs.Tree.{Trees}
use Rattle.sqlite_trees.specs.View.{IsClean}
use Rattle.sqlite_trees.proofs.Doubt.{no_doubt, clean_of as sure}
use Rattle.sqlite_store.specs.declared.store.FileStore.{FileStore}
use Rattle.sqlite_store.specs.declared.store.open.Unopened.{Unopened}
use Rattle.sqlite_store.specs.FileStore.{state, view, schema_of, log_frames, files, recovers, IsReady}
use Rattle.sqlite_store.specs.Db.{IsFile}
use Rattle.sqlite_store.specs.Listing.{all_shapes, file_trees}
use Rattle.sqlite_store.specs.Saved.{kept_schema, schema_for}
use Rattle.sqlite_store.specs.Unopened.{state_of, files_of}
use Rattle.store_file.specs.Catalog.{laid_out}
use Rattle.store_file.specs.Files.{HasStoreTables, HoldsAlone, HoldsStore, HoldsTrees, IsLaidOut, LeavesStore, image_of}

entries_shape : all_shapes laid_out 0 ≡ Index plain
unfolding all_shapes
entries_shape = refl

about_shape : all_shapes laid_out 1 ≡ Table
unfolding all_shapes
about_shape = refl

cells_shape : all_shapes laid_out 2 ≡ Index plain
unfolding all_shapes
cells_shape = refl

-- what is only read stays as it is
pub same_image : {D : Type 0} {g : Ghosts D} {old new : Files D} → OnlyReads g old.log new.log → OnlyReads g old.db new.db → image_of g new ≡ image_of g old
same_image log db = ap₂ (λ a b. let i : Image = record { log = a; db = b } in i) log.seen db.seen

module _ {D : Type 0} {g : Ghosts D} where
  -- a disk that is never clean makes a store of which no clause on values speaks
  pub never_clean : (it : FileStore D g) → ((d : D) → g.is_clean d ≡ false) → IsClean (view it) → ⊥
  never_clean it none clean =
      let now : IsTrue (view it).is_clean = sure _ clean in
      let is : (view it).is_clean ≡ false = clean_is it.pool ∙ rw (none (files it).0) refl in
      cc

  -- the files of a store that was not opened yet are clean if it is
  pub clean_files : (it : Unopened D g) (f : Files D) → files_of it ≡ (f.log, f.db) → IsTrue (state_of it).is_clean → AreClean g f.log f.db
  clean_files it f is clean = sym (clean_is it.pool ∙ ap (λ (p : D × D). are_clean g p.0 p.1) is) ∙ clean

  pub is_laid_out : (it : FileStore D g) → IsReady it → schema_of it ≡ laid_out → IsTrue (view it).is_clean → IsLaidOut (view it)
  is_laid_out it ready schema clean = record {
    tables = record {
      entries = rw schema entries_shape;
      about = rw schema about_shape;
      cells = rw schema cells_shape;
      settled = sym (ap (λ o. all_shapes (kept_schema o (schema_of it))) ready.unaltered);
    };
    rest = record { sound = ready.sound (no_doubt _ clean); settled = ready.clean };
  }

  -- no savepoint has another schema
  kept : {it : FileStore D g} → HasStoreTables it → kept_schema it.saved it.schema.items ≡ laid_out
  kept {it} has = ap (λ o. kept_schema o it.schema.items) has.unaltered ∙ has.schema

  module _ (it : FileStore D g) (stays : SeenMayStay g) (is_open : IsTrue (view it).is_open) where
    holds_commit : HasStoreTables it → (left : Image) → Recovers (state it).page_size left (state it).committed → HoldsTrees left (view it).committed
    holds_commit has left found =
        ∥∥₁_elim (size_is_allowed it.pool) squash₁ (λ size. ∥∥₁_map (it.stored is_open) (λ stored. let r : (held : HoldsStore left) × (held.db ≡ (view it).committed) = (
          record {
            db = (view it).committed;
            holds = record {
              size = (state it).page_size;
              allowed = size;
              pages = (state it).committed;
              found = found;
              file = subst (λ s. IsFile (state it).page_size s (state it).committed) (kept has) stored.ours.file;
              reads = subst (λ s. (view it).committed ≡ file_trees (state it).page_size s (state it).committed) (kept has) (rw (clean_of (state it) is_open));
            };
            plain = has.plain;
          },
          refl,
        ) in r))

    -- with an empty log, each image that a crash may leave has the last commit in the database file
    pub copied : HasStoreTables it → log_frames it ≡ 0 → (left : Image) → (state it).may_leave left → HoldsAlone left (view it).committed
    copied has empty left may = record {
      both = holds_commit has left ((settled it.pool stays is_open).durable left may);
      alone = holds_commit has _ (file_alone it.pool stays is_open empty left may);
    }

  -- what a crash leaves of the files of a store is one, with trees that it may come back with
  pub left_in : (it : FileStore D g) → HasStoreTables it → LeavesStore it
  left_in it has clean left may =
      let can = may_leave_is it.pool left clean may in
      let size = (state it).page_size in
      ∥∥₁_elim (size_is_allowed it.pool) squash₁ (λ allowed. ∥∥₁_elim it.safe squash₁ (λ all.
      let found = all left can in
      let listing : schema_for it.saved it.schema.items found.0 ≡ laid_out = ap (λ o. schema_for o it.schema.items found.0) has.unaltered ∙ has.schema in
      let db = file_trees size (schema_for it.saved it.schema.items found.0) found.0 in
      ∥∥₁_map found.2 (λ ours. let r : (db : Trees) × HoldsTrees left db × recovers it db = (
        db,
        ∣ (
          record {
            db = db;
            holds = record {
              size = size;
              allowed = allowed;
              pages = found.0;
              found = found.1;
              file = subst (λ s. IsFile size s found.0) listing ours.file;
              reads = ap (λ s. file_trees size s found.0) listing;
            };
            plain = has.plain;
          },
          refl,
        ) ∣₁,
        (left, found.0, can, ∣ found.1 ∣₁, refl),
      ) in r)))
