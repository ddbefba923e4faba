-- What the two files hold, and what a store over them shows.
use Rattle.std.specs.Prelude.{◌≡◌, ◌⊎◌, ℕ, List, []}
use Rattle.sqlite_disk.specs.declared.Disk.{Ghosts}
use Rattle.sqlite_disk.specs.declared.Files as disk
use Rattle.sqlite_wal.specs.Recovery.{Image}
use Rattle.sqlite_wal.specs.Files.{outcomes, seen_image}
use Rattle.sqlite_wal.specs.Reads.{AreClean}
use Rattle.sqlite_wal.specs.PageSize.{IsPageSize}
use Rattle.sqlite_pages.specs.PageMap.{PageMap}
use Rattle.sqlite_pool.specs.Stored.{stored_size, Recovers}
use Rattle.sqlite_pool.specs.Opening.{IsBlankFile}
use Rattle.sqlite_trees.specs.Tree.{Trees}
use Rattle.sqlite_trees.specs.View.{View}
use Rattle.sqlite_store.specs.declared.catalog.Wanted.{Wanted}
use Rattle.sqlite_store.specs.declared.store.FileStore.{FileStore}
use Rattle.sqlite_store.specs.Db.{IsFile}
use Rattle.sqlite_store.specs.FileStore.{state, schema_of, files, recovers, IsUnaltered}
use Rattle.sqlite_store.specs.Listing.{file_trees}
use Rattle.sqlite_store.specs.Opening.{IsEmptyFile}
use Rattle.store_file.specs.Catalog.{laid_out}
use Rattle.store_file.specs.Logs.{HasTables, IsAtRest}

-- the two files recover to a sound database of these objects, whose trees these are
pub record Holds (schema : List Wanted) (image : Image) (db : Trees) : Type 0 where
  pub size : ℕ
  pub allowed : IsPageSize (stored_size size)
  pub pages : PageMap
  pub found : Recovers size image pages
  pub file : IsFile size schema pages
  pub reads : db ≡ file_trees size schema pages

-- the two files hold a store, with no sums at the ends of its pages
pub record HoldsStore (image : Image) : Type 0 where
  pub db : Trees
  pub holds : Holds laid_out image db
  pub plain : IsPageSize holds.size

-- there is no database, or one whose schema is still empty
abbrev pub HoldsNothing : Image → Type 0
HoldsNothing image = IsBlankFile 4096 image ⊎ ((pages : PageMap) × Recovers 4096 image pages × IsEmptyFile 4096 pages)

-- the two files hold a store with these trees
abbrev pub HoldsTrees : Image → Trees → Type 0
HoldsTrees image db = ∥ ((held : HoldsStore image) × (held.db ≡ db)) ∥₁

-- the last commit is in the database file, with the log and without it
pub record HoldsAlone (image : Image) (db : Trees) : Type 0 where
  pub both : HoldsTrees image db
  pub alone : HoldsTrees (record image { log = [] }) db

-- a database has the three tables, whose schema no transaction has changed, and no sums at the ends of its pages
pub record HasStoreTables {D : Type 0} {g : Ghosts D} (it : FileStore D g) : Type 0 where
  pub plain : IsPageSize (state it).page_size
  pub schema : schema_of it ≡ laid_out
  pub unaltered : IsUnaltered it

-- a store with the three trees, in which nothing is written that isn't committed
pub record IsLaidOut (v : View) : Type 0 where
  pub tables : HasTables v
  pub rest : IsAtRest v

abbrev pub image_of : {D : Type 0} → Ghosts D → disk.Files D → Image
image_of g files = seen_image g files.log files.db

-- where the disks kept what was written, the two files hold a store with these trees: as they read now, and whatever a crash leaves of them, with
-- the log and without it
pub record KeepStore {D : Type 0} (g : Ghosts D) (db : Trees) (files : disk.Files D) : Type 0 where
  pub now : AreClean g files.log files.db → HoldsTrees (image_of g files) db
  pub later : AreClean g files.log files.db → (image : Image) → outcomes g files.log files.db image → HoldsAlone image db

-- where the disks kept what was written, whatever a crash leaves of the files now holds a store, with trees that the database may come back with
abbrev pub LeavesStore : {D : Type 0} {g : Ghosts D} → FileStore D g → Type 0
LeavesStore {D} {g} it = AreClean g (files it).0 (files it).1 → (image : Image) → outcomes g (files it).0 (files it).1 image
    → ∥ ((db : Trees) × HoldsTrees image db × recovers it db) ∥₁
