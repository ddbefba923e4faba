-- What a store in format 3 shows.
use Rattle.std.proofs.Common.{◌≡◌, IsTrue, refl, sym, ap}
use Rattle.sqlite_value.specs.Keys.{plain}
use Rattle.sqlite_trees.specs.declared.store.Shape.TheVariants.{Table, Index}
use Rattle.sqlite_trees.proofs.Doubt.{no_doubt}
use Rattle.sqlite_disk.specs.declared.Disk.{Ghosts}
use Rattle.sqlite_store.specs.declared.store.FileStore.{FileStore}
use Rattle.sqlite_store.specs.FileStore.{view, schema_of, IsReady}
use Rattle.sqlite_store.specs.Listing.{all_shapes}
use Rattle.sqlite_store.specs.Saved.{kept_schema}
use Rattle.store_file.specs.Former.{HasFormerTables, former_tables}

entries_shape : all_shapes former_tables 0 ≡ Index plain
unfolding all_shapes
entries_shape = refl

about_shape : all_shapes former_tables 1 ≡ Table
unfolding all_shapes
about_shape = refl

pub has_former_tables : {D : Type 0} {g : Ghosts D} → (it : FileStore D g) → IsReady it → schema_of it ≡ former_tables → IsTrue (view it).is_clean → HasFormerTables (view it)
has_former_tables it ready schema clean = record {
  entries = rw schema entries_shape;
  about = rw schema about_shape;
  settled = sym (ap (λ o. all_shapes (kept_schema o (schema_of it))) ready.unaltered);
  rest = record { sound = ready.sound (no_doubt _ clean); settled = ready.clean };
}
