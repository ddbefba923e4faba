-- What a note in place of another makes of a store.
use Rattle.std.proofs.Common.{◌≡◌, ◌∙◌, [], ◌∷◌, ℕ, ℤ, true, not, cond, List, map, sym, ap}
use Rattle.std.specs.Cmp.{tied_itself}
use Rattle.std.specs.Ordering.{is_eq}
use Rattle.sqlite_value.specs.Order.{Row, column, value_cmp}
use Rattle.sqlite_value.specs.declared.value.Value.TheVariants.{Int, Text as Words, Blob}
use Rattle.sqlite_value.proofs.OrderLemmas.{value_cmp_total}
use Rattle.sqlite_trees.specs.Tree.{Trees, put_row, without_rowid}
use Rattle.store_file.specs.Changes.{HasNoteMore, WritesByNow}
use Rattle.store_file.specs.Entries.{note_in, note_row}
use Rattle.store_file.specs.Notes.{Notes}
use Rattle.store_file.specs.declared.format.Note.{Note}
use Rattle.store_file.specs.declared.format.TheConstants.{FORMAT}

-- a row has its own number
has_own : (row : Row) (number : ℤ) → column row 0 ≡ Int number → is_eq (value_cmp (column row 0) (Int number)) ≡ true
has_own row number at = ap (λ value. is_eq (value_cmp value (Int number))) at ∙ ap is_eq (tied_itself value_cmp_total (Int number))

-- without its only row a table has none
pub none_left : (rows : List Row) (row : Row) (number : ℤ) → rows ≡ row ∷ [] → column row 0 ≡ Int number → without_rowid number rows ≡ []
none_left rows row number one at = ap (without_rowid number) one ∙ ap (λ own. cond (not own) (row ∷ []) []) (has_own row number at)

-- a note that is put where the old one was taken out names the store
pub named : (old read removed new : Trees) (note : Note) (writer : List ℕ) (number : ℤ) → read ≡ old → Notes old note → note.format ≡ FORMAT
    → without_rowid number (old 1) ≡ [] → removed 1 ≡ without_rowid number (read 1) → removed 0 ≡ read 0 → removed 2 ≡ read 2
    → HasNoteMore FORMAT writer note.hash_key removed new → WritesByNow writer old new
named old read removed new note writer number same noted format alone taken others apart more =
    let none : removed 1 ≡ [] = taken ∙ ap (λ trees. without_rowid number (trees 1)) same ∙ alone in
    let one : new 1 ≡ note_row FORMAT writer note.hash_key ∷ [] = more.about ∙ ap (put_row (note_row FORMAT writer note.hash_key)) none in
    record {
      entries = more.entries ∙ others ∙ ap (λ trees. trees 0) same;
      cells = more.cells ∙ apart ∙ ap (λ trees. trees 2) same;
      note = note;
      noted = noted;
      about = ap (map note_in) one ∙ ap (λ f. (Int f ∷ Words writer ∷ Blob note.hash_key ∷ []) ∷ []) (sym format);
    }
