-- What a store says of itself, as it is read.
use Rattle.std.specs.Prelude.{◌≡◌, ◌≢◌, ◌⊎◌, ℤ, string_bytes}
use Rattle.sqlite_trees.specs.Tree.{Trees}
use Rattle.store_file.specs.Entries.{IsNoted}
use Rattle.store_file.specs.declared.fault.StoreFault.{StoreFault}
use Rattle.store_file.specs.declared.fault.StoreFault.TheVariants.{Foreign, Format}
use Rattle.store_file.specs.declared.format.Note.{Note}
use Rattle.store_file.specs.declared.format.TheConstants.{FORMAT}

-- the trees note this format, this writer and this hash key
abbrev pub Notes : Trees → Note → Type 0
Notes trees note = IsNoted trees note.format (string_bytes note.writer) note.hash_key

-- the trees note this format, which is another than that of the program
abbrev pub NotesFormat : ℤ → Trees → Type 0
NotesFormat n trees = (note : Note) × Notes trees note × (note.format ≡ n) × (n ≢ FORMAT)

-- the tables are no store's, or those of another version of the program
abbrev pub IsOtherStore : StoreFault → Type 0
IsOtherStore why = (why ≡ Foreign) ⊎ ((n : ℤ) × (why ≡ Format n))
