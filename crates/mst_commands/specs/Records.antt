-- Keys and values, and logs, as records of CSV.
use Rattle.std.specs.Prelude.{◌≡◌, ℕ, ◌+◌, Bool, List, [], ◌∷◌, ◌++◌, ⊤, codes, decimal, string_bytes, Option, Some, None, false, true, unwrap_or, IfSome, IsSomeAnd, IsUtf8, MatchBool, if◌then◌else◌, flat_map}
use Rattle.std.specs.Option.{option_map_or}
use Rattle.std.specs.Str.Parse.{IsNumeral, digits_value, without_leading_plus}
use Rattle.std.specs.Io.KnownBytes.{Appends}
use Rattle.key_order.specs.Text.{Text as Key}
use Rattle.csv.specs.Records.{field_at}
use Rattle.csv.specs.Reading.{AreRecords, Reached, Ready, default_config, reader_config, reader_state, reader_trim, source_of, strip_bom}
use Rattle.csv.specs.Writing.{row_text, default_writer, writer_setup, writer_under, writer_pending, fields_written, has_written, text_written}
use Rattle.csv.specs.declared.parser.State.TheVariants as st
use Rattle.csv.specs.declared.reader.Reader.{Reader}
use Rattle.csv.specs.declared.reader.Trim.TheVariants as trim
use Rattle.csv.specs.declared.writer.Writer.{Writer}
use Rattle.store_file.specs.Values.{bytes_of_value, IsFormed}
use Rattle.store_file.specs.declared.register.Register.{Register}
use Rattle.store_file.specs.declared.value.Value.{Value}
use Rattle.mst_commands.specs.Lines.{Pair, listed_pair}

-- the names of the fields, in the first record
abbrev pub header : Bool → List (List ℕ)
header is_log =
    if is_log then codes "key" ∷ codes "time" ∷ codes "writer" ∷ codes "change" ∷ codes "value" ∷ [] else codes "key" ∷ codes "value" ∷ []

-- a key and the bytes of its value
abbrev pub pair_fields : Pair → List (List ℕ)
pair_fields pair = pair.0 ∷ bytes_of_value pair.1 ∷ []

-- what a change is called, and the bytes of its value: none of a removal
abbrev pub change_fields : Option Value → List (List ℕ)
change_fields None = codes "del" ∷ [] ∷ []
change_fields (Some value) = codes "put" ∷ bytes_of_value value ∷ []

-- an entry of a log, with its time in these digits
abbrev pub log_fields : List ℕ → Key × Register → List (List ℕ)
log_fields time entry = string_bytes entry.0 ∷ time ∷ string_bytes entry.1.writer ∷ change_fields entry.1.value

-- a text of the digits of a number, which may stand after a plus
abbrev pub SpellsNumber : List ℕ → ℕ → Type 0
SpellsNumber bytes n = IsUtf8 bytes × IsNumeral 10 (without_leading_plus bytes) × (n ≡ digits_value 10 (without_leading_plus bytes))

-- a record of a log says this entry, whose value has its one form
abbrev pub SaysChange : List (List ℕ) → Key × Register → Type 0
SaysChange fields entry = (time : List ℕ) × SpellsNumber time entry.1.time × (fields ≡ log_fields time entry) × IfSome entry.1.value IsFormed

-- a pair is that of a record, and its value has its one form
abbrev pub IsPairOf : List (List ℕ) → Pair → Type 0
IsPairOf row pair = (row ≡ pair_fields pair) × IsFormed pair.1

-- a record of keys and values says this entry: of no writer, with the number of the record as its time
pub record SaysPair (number : ℕ) (row : List (List ℕ)) (entry : Key × Register) : Type 0 where
  pub fields : IsSomeAnd entry.1.value (λ value. IsPairOf row (string_bytes entry.0, value))
  pub time : entry.1.time ≡ number
  pub writer : string_bytes entry.1.writer ≡ []

-- a record after the header, of a log or of keys and values, says this entry
abbrev pub SaysEntry : Bool → ℕ → List (List ℕ) → Key × Register → Type 0
SaysEntry is_log number fields entry = MatchBool is_log (SaysChange fields entry) (SaysPair number fields entry)

-- records from this number on say these entries, one each, in their order
abbrev pub SayEntries : Bool → ℕ → List (List (List ℕ)) → List (Key × Register) → Type 0
SayEntries is_log number [] [] = ⊤
SayEntries is_log number [] (entry ∷ entries) = ⊥
SayEntries is_log number (fields ∷ records) [] = ⊥
SayEntries is_log number (fields ∷ records) (entry ∷ entries) = SaysEntry is_log number fields entry × SayEntries is_log (number + 1) records entries

-- the first record is the header, and those after it say the entries
abbrev pub SayAll : Bool → List (List (List ℕ)) → List (Key × Register) → Type 0
SayAll is_log [] entries = ⊥
SayAll is_log (first ∷ records) entries = (first ≡ header is_log) × SayEntries is_log 1 records entries

-- a text of CSV has these entries, in their order
abbrev pub HasEntries : Bool → List ℕ → List (Key × Register) → Type 0
HasEntries is_log text entries =
    (records : List (List (List ℕ))) × AreRecords default_config st.StartRecord (strip_bom text) records × SayAll is_log records entries

-- the record of a row that says a value, or nothing of a removal
abbrev pub pair_text : Key × Register → List ℕ
pair_text row = option_map_or (λ pair. row_text default_writer (pair_fields pair)) (listed_pair row) []

-- rows as CSV: the header, and a record for each that says a value
abbrev pub pairs_text : List (Key × Register) → List ℕ
pairs_text rows = row_text default_writer (header false) ++ flat_map pair_text rows

-- the record of an entry of a log
abbrev pub entry_text : Key × Register → List ℕ
entry_text entry = row_text default_writer (log_fields (decimal entry.1.time) entry)

-- a log as CSV: the header, and a record for each entry
abbrev pub log_text : List (Key × Register) → List ℕ
log_text entries = row_text default_writer (header true) ++ flat_map entry_text entries

-- the field at a place, or an empty one
abbrev pub field_or_empty : List (List ℕ) → ℕ → List ℕ
field_or_empty fields at = unwrap_or (field_at fields at) []

-- the last two fields of a record of a log say this value in its one form, or that it is a removal
abbrev pub SaysValue : List (List ℕ) → Option Value → Type 0
SaysValue fields said = (change_fields said ≡ field_or_empty fields 3 ∷ field_or_empty fields 4 ∷ []) × IfSome said IsFormed

-- a reader with the crate's defaults has read these records of the text, where the text is known
pub record HasRead {R : Type 0} (remaining : R → Option (List ℕ)) (text : Option (List ℕ)) (records : List (List (List ℕ))) (reader : Reader R) : Type 0 where
  pub trim : reader_trim reader ≡ trim.None
  pub ready : Ready reader
  pub config : reader_config reader ≡ default_config
  pub reached : (bytes : List ℕ) → text ≡ Some bytes
      → (left : List ℕ) × (source_of remaining reader ≡ Some left) × Reached default_config st.StartRecord (strip_bom bytes) records (reader_state reader) left

-- these are all records of the text, where it is known
abbrev pub AreAll : Option (List ℕ) → List (List (List ℕ)) → Type 0
AreAll text records = IfSome text (λ bytes. AreRecords default_config st.StartRecord (strip_bom bytes) records)

-- a read found one record more, or it found none, and what was read before is all
abbrev pub ReadsOne : {R : Type 0} → (R → Option (List ℕ)) → Reader R → Reader R → Bool → List (List ℕ) → Type 0
ReadsOne remaining old new found fields =
    (text : Option (List ℕ)) (records : List (List (List ℕ))) → HasRead remaining text records old
    → MatchBool found (HasRead remaining text (records ++ fields ∷ []) new) (AreAll text records)

-- a writer with the crate's defaults stands before a record
pub record IsBeforeRecord {W : Type 0} (writer : Writer W) : Type 0 where
  pub setup : writer_setup writer ≡ default_writer
  pub fields : fields_written writer ≡ 0
  pub wrote : has_written writer ≡ false

-- a writer that stood before a record has written these bytes, and stands before a record
abbrev pub WritesRecords : {W : Type 0} → (W → Option (List ℕ)) → Writer W → Writer W → List ℕ → Type 0
WritesRecords contents old new bytes = IsBeforeRecord old → IsBeforeRecord new × Appends (text_written contents old) (text_written contents new) bytes

-- a writer was made over this output, and has written nothing
pub record BeginsOver {W : Type 0} (out : W) (first : Writer W) : Type 0 where
  pub before : IsBeforeRecord first
  pub under : writer_under first ≡ out
  pub empty : writer_pending first ≡ []

-- a writer that was made over this output has written these bytes, and stands before a record
abbrev pub HasWritten : {W : Type 0} → (W → Option (List ℕ)) → W → Writer W → List ℕ → Type 0
HasWritten {W} contents out writer bytes = (first : Writer W) × BeginsOver out first × WritesRecords contents first writer bytes

-- a writer that stood before a record has written one of these fields, and stands before a record
abbrev pub WritesRecord : {W : Type 0} → (W → Option (List ℕ)) → Writer W → Writer W → List (List ℕ) → Type 0
WritesRecord contents old new fields = WritesRecords contents old new (row_text default_writer fields)
