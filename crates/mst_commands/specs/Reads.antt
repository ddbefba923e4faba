-- What the commands that read find.
use Rattle.std.specs.Prelude.{◌≡◌, ℕ, Bool, List, [], ◌∷◌, ◌++◌, Option, Some, codes, length, count_by, decimal, if◌then◌else◌}
use Rattle.std.specs.Global.{Vec}
use Rattle.std.specs.Io.KnownBytes.{Appends}
use Rattle.key_order.specs.Text.{Text as Key}
use Rattle.sqlite_trees.specs.Tree.{Trees}
use Rattle.store_file.specs.Entries.{HoldsEntries}
use Rattle.store_file.specs.Latest.{IsLatestAt, said_by}
use Rattle.store_file.specs.Rows.{HasLatestRows, says_value, is_removal, last_time}
use Rattle.store_file.specs.Sifting.{AreSifted}
use Rattle.store_file.specs.Values.{bytes_of_value}
use Rattle.store_file.specs.declared.register.Register.{Register}
use Rattle.store_file.specs.declared.rows.Summary.{Summary}
use Rattle.store_file.specs.declared.sifting.BadRow.{BadRow}
use Rattle.store_file.specs.declared.value.Value.{Value}
use Rattle.mst_commands.specs.Escapes.{json_of}
use Rattle.mst_commands.specs.Lines.{list_of}
use Rattle.mst_commands.specs.Records.{pairs_text, log_text}
use Rattle.mst_commands.specs.declared.bounds.Listing.{Listing}

-- this is what the latest register of the key says, where it says a value
abbrev pub IsValueAt : Trees → List ℕ → Option Value → Type 0
IsValueAt trees key said = (found : Option Register) × IsLatestAt trees key found × (said ≡ said_by found)

-- the value of the key, as it is, and a newline were written
abbrev pub WritesValue : {W : Type 0} → List ℕ → (W → Option (List ℕ)) → W → W → Trees → Type 0
WritesValue key contents old new trees =
    (value : Value) × IsValueAt trees key (Some value) × Appends (contents old) (contents new) (bytes_of_value value ++ 10 ∷ [])

-- the list of the latest rows of the table's entries was written
abbrev pub WritesList : {W : Type 0} → Listing → (W → Option (List ℕ)) → W → W → Trees → Type 0
WritesList listing contents old new trees =
    (rows : List (Key × Register)) × HasLatestRows trees rows × Appends (contents old) (contents new) (list_of listing rows)

-- how many of the latest rows say a value, and a newline, was written
abbrev pub WritesCount : {W : Type 0} → (W → Option (List ℕ)) → W → W → Trees → Type 0
WritesCount contents old new trees =
    (rows : List (Key × Register)) × HasLatestRows trees rows × Appends (contents old) (contents new) (decimal (count_by says_value rows) ++ 10 ∷ [])

-- the latest rows of the table's entries were written as CSV
abbrev pub WritesPairs : {W : Type 0} → (W → Option (List ℕ)) → W → Trees → W → Type 0
WritesPairs contents old trees new =
    (rows : List (Key × Register)) × HasLatestRows trees rows × Appends (contents old) (contents new) (pairs_text rows)

-- the table's entries were written as CSV
abbrev pub WritesLog : {W : Type 0} → (W → Option (List ℕ)) → W → Trees → W → Type 0
WritesLog contents old trees new =
    (entries : List (Key × Register)) × HoldsEntries trees entries × Appends (contents old) (contents new) (log_text entries)

-- each row of the table is that of an entry
abbrev pub AreEntryRows : Trees → Type 0
AreEntryRows trees = (entries : List (Key × Register)) × HoldsEntries trees entries

-- the table's rows that are entries were written as CSV, and these are the others
abbrev pub WritesSifted : {W : Type 0} → (W → Option (List ℕ)) → W → Trees → W × Vec BadRow → Type 0
WritesSifted contents old trees done =
    (entries : List (Key × Register)) × AreSifted (trees 0) entries (length done.1.items) × Appends (contents old) (contents done.0) (log_text entries)

-- this many of the rows say a value, this many are removals, and this is the greatest time
pub record HaveNumbers (rows : List (Key × Register)) (summary : Summary) : Type 0 where
  pub keys : summary.keys ≡ count_by says_value rows
  pub removed : summary.removed ≡ count_by is_removal rows
  pub last : summary.last ≡ last_time rows

-- the numbers before a row make these with it
abbrev pub SumsOn : Summary → Key × Register → Summary → Type 0
SumsOn before row after = (rows : List (Key × Register)) → HaveNumbers rows before → HaveNumbers (rows ++ row ∷ []) after

-- the numbers of the latest rows of the table's entries
abbrev pub IsSummary : Trees → Summary → Type 0
IsSummary trees summary = (rows : List (Key × Register)) × HasLatestRows trees rows × HaveNumbers rows summary

-- the numbers in lines, with the number of the table's rows, and a name
abbrev pub status_text : Summary → ℕ → List ℕ → List ℕ
status_text summary rows name =
    codes "keys " ++ (decimal summary.keys ++ (codes "\nremoved " ++ (decimal summary.removed ++ (codes "\nrows " ++ (decimal rows
    ++ (codes "\nlast write " ++ (decimal summary.last ++ (codes "\nwriter " ++ (name ++ codes "\n")))))))))

-- the same as the members of an object of JSON, which go on
abbrev pub status_object : Summary → ℕ → List ℕ → List ℕ
status_object summary rows name =
    codes "{\"keys\":" ++ (decimal summary.keys ++ (codes ",\"removed\":" ++ (decimal summary.removed ++ (codes ",\"rows\":" ++ (decimal rows
    ++ (codes ",\"last_write\":" ++ (decimal summary.last ++ (codes ",\"writer\":" ++ (json_of name ++ codes ",")))))))))

-- the numbers and the name, as JSON or in lines
abbrev pub status_as : Bool → Summary → ℕ → List ℕ → List ℕ
status_as json summary rows name = if json then status_object summary rows name else status_text summary rows name

-- the table's numbers and a name were written, as JSON or in lines
abbrev pub WritesStatus : {W : Type 0} → Bool → List ℕ → (W → Option (List ℕ)) → W → W → Trees → Type 0
WritesStatus json name contents old new trees =
    (summary : Summary) × IsSummary trees summary × Appends (contents old) (contents new) (status_as json summary (length (trees 0)) name)
