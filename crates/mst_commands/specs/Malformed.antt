-- Which texts of CSV an import refuses, and what else ends one.
use Rattle.std.specs.Prelude.{◌≡◌, ◌≢◌, ◌≤◌, ◌<◌, ◌^◌, ℕ, Bool, List, [], ◌∷◌, ◌++◌, length, ⊤, false, ◌⊎◌, Option, IfSome, IsSomeAnd, IsUtf8, string_bytes}
use Rattle.key_order.specs.Text.{Text as Key}
use Rattle.csv.specs.Reading.{AreRecords, Reached, default_config, strip_bom}
use Rattle.csv.specs.declared.parser.State.{State}
use Rattle.csv.specs.declared.parser.State.TheVariants as st
use Rattle.store_file.specs.Values.{bytes_of_value}
use Rattle.store_file.specs.declared.register.Register.{Register}
use Rattle.store_file.specs.declared.value.Value.{Value}
use Rattle.mst_commands.specs.Quotes.{is_quoted}
use Rattle.mst_commands.specs.Records.{header, SaysEntry, SaysValue}
use Rattle.mst_commands.specs.declared.fault.Fault.{Fault}
use Rattle.mst_commands.specs.declared.fault.Fault.TheVariants as fault

-- a text of CSV begins with these records
abbrev pub BeginsWithRecords : List ℕ → List (List (List ℕ)) → Type 0
BeginsWithRecords text records = (state : State) × (left : List ℕ) × Reached default_config st.StartRecord (strip_bom text) records state left

-- key, writer and value have 1 MiB each at most, and the time is one that there is, below 2^63
pub record IsStorable (entry : Key × Register) : Type 0 where
  pub key : length (string_bytes entry.0) ≤ 1048576
  pub time : entry.1.time < 2 ^ 63
  pub writer : length (string_bytes entry.1.writer) ≤ 1048576
  pub value : IfSome entry.1.value (λ value. length (bytes_of_value value) ≤ 1048576)

-- a record after the header says no such entry
abbrev pub SaysNone : Bool → List (List ℕ) → Type 0
SaysNone is_log fields = (number : ℕ) (entry : Key × Register) → SaysEntry is_log number fields entry → ¬ IsStorable entry

-- the last two fields of a record of a log say no change, or a value of more than 1 MiB
abbrev pub SaysNoChange : List (List ℕ) → Type 0
SaysNoChange fields = (said : Option Value) → SaysValue fields said → IsSomeAnd said (λ value. 1048576 < length (bytes_of_value value))

-- a field is no key and no writer: it has more than 1 MiB, or isn't UTF-8
abbrev pub IsNoName : List ℕ → Type 0
IsNoName field = (1048576 < length field) ⊎ ¬ (IsUtf8 field)

-- the first record of a text is another than the header
abbrev pub HasOtherHeader : Bool → List ℕ → Type 0
HasOtherHeader is_log text = (first : List (List ℕ)) × BeginsWithRecords text (first ∷ []) × (first ≢ header is_log)

-- a text has no record, or the first one is another than the header
abbrev pub LacksHeader : Bool → List ℕ → Type 0
LacksHeader is_log text = AreRecords default_config st.StartRecord (strip_bom text) [] ⊎ HasOtherHeader is_log text

-- after the header of a text comes a record that says no entry
abbrev pub GoesOnInNoEntry : Bool → List ℕ → List (List (List ℕ)) → Type 0
GoesOnInNoEntry is_log text records = (fields : List (List ℕ)) × BeginsWithRecords text (header is_log ∷ records ++ fields ∷ []) × SaysNone is_log fields

-- a text has after the header a record that says no entry
abbrev pub HasBadRecord : Bool → List ℕ → Type 0
HasBadRecord is_log text = (records : List (List (List ℕ))) × GoesOnInNoEntry is_log text records

-- an import ends early for its header, for one of its records, or if memory, the store or a device fails
abbrev pub EndsFor : Type 0 → Type 0 → Fault → Type 0
EndsFor first row (fault.NoHeader names) = first
EndsFor first row (fault.BadLine line why) = row
EndsFor first row (fault.Store why) = ⊤
EndsFor first row (fault.Device error) = ⊤
EndsFor first row _ = ⊥

-- it ends for its header only if this is so, and for no record
abbrev pub EndsForHeader : Type 0 → Fault → Type 0
EndsForHeader first = EndsFor first ⊥

-- it ends for a record only if this is so, and not for its header
abbrev pub EndsForRecord : Type 0 → Fault → Type 0
EndsForRecord row = EndsFor ⊥ row

-- a command ends early only if memory, the store or a device fails
abbrev pub IsCommandFailure : Fault → Type 0
IsCommandFailure = EndsFor ⊥ ⊥

-- for its header or a record the reading of records ends only where these are wrong, as far as the text is known
abbrev pub IsParseRefused : Bool → Option (List ℕ) → Fault → Type 0
IsParseRefused is_log text = EndsFor (IfSome text (LacksHeader is_log)) (IfSome text (HasBadRecord is_log))

-- a text has such a record, or a quote in it is open or stands where none may
abbrev pub IsBadText : Bool → List ℕ → Type 0
IsBadText is_log text = HasBadRecord is_log text ⊎ (is_quoted text ≡ false)

-- so it is with an import, which ends for the quotes too
abbrev pub IsImportRefused : Bool → Option (List ℕ) → Fault → Type 0
IsImportRefused is_log text = EndsFor (IfSome text (LacksHeader is_log)) (IfSome text (IsBadText is_log))
