-- Page ranges, ranges of names, and rows, as bytes.
use Rattle.std.specs.Prelude.{◌≡◌, ◌≢◌, ℕ, ◌<◌, ◌^◌, List, ◌++◌, length, string_bytes, ⊤}
use Rattle.std.specs.List.{AllByRecursion}
use Rattle.key_order.specs.Interval.{Span}
use Rattle.key_order.specs.Map.{IsMap}
use Rattle.key_order.specs.Text.{Text, text_order}
use Rattle.merkle_bytes.specs.Counts.{count_bytes}
use Rattle.merkle_bytes.specs.Encodings.{list_bytes, string_encoding}
use Rattle.merkle_bytes.specs.PageRanges.{entry_bytes, IsEntry}
use Rattle.merkle_bytes.specs.declared.error.ReadError.{ReadError}
use Rattle.merkle_bytes.specs.declared.error.ReadError.TheVariants as read
use Rattle.merkle_diff.specs.Entry.{Entry}
use Rattle.merkle_replica.specs.Steps.{AreRanges}
use Rattle.examples.specs.declared.wire.WireFault.{WireFault}
use Rattle.examples.specs.declared.wire.WireFault.TheVariants.{Memory, Malformed}

-- a text: the number of its bytes, and its bytes
abbrev pub text_bytes : Text → List ℕ
text_bytes text = string_encoding (string_bytes text)

-- a page range: its first name, its last name, and its digest
abbrev pub page_range_bytes : Entry Text (List ℕ) → List ℕ
page_range_bytes = entry_bytes text_bytes

-- a range of names: the first and the last
abbrev pub range_bytes : Span Text → List ℕ
range_bytes s = text_bytes s.first ++ text_bytes s.last

-- a row: its name and its number
abbrev pub name_row_bytes : Text × ℕ → List ℕ
name_row_bytes r = text_bytes r.0 ++ count_bytes r.1

-- what a page range keeps to: its first name isn't above its last, and its digest has 16 bytes
abbrev pub IsNameRange : Entry Text (List ℕ) → Type 0
IsNameRange = IsEntry (λ _. ⊤) text_order

-- what a row keeps to: its number is one of 64 bits
abbrev pub HasWideNumber : Text × ℕ → Type 0
HasWideNumber r = r.1 < 2 ^ 64

-- the bytes spell no list of such values
abbrev pub AreNoList : {T : Type 0} → (T → Type 0) → (T → List ℕ) → List ℕ → Type 0
AreNoList {T} is_value encoding bytes = (list : List T) → AllByRecursion is_value list → bytes ≢ list_bytes encoding list

-- the bytes spell no page ranges
abbrev pub AreNoPageRanges : List ℕ → Type 0
AreNoPageRanges bytes = (theirs : List (Entry Text (List ℕ))) → AllByRecursion IsNameRange theirs → bytes ≢ list_bytes page_range_bytes theirs

-- the bytes spell no ranges of names
abbrev pub AreNoRanges : List ℕ → Type 0
AreNoRanges bytes = (ranges : List (Span Text)) → bytes ≢ list_bytes range_bytes ranges

-- the bytes spell no rows
abbrev pub AreNoRows : List ℕ → Type 0
AreNoRows bytes = (rows : List (Text × ℕ)) → AllByRecursion HasWideNumber rows → bytes ≢ list_bytes name_row_bytes rows

-- bytes that go on with those of a list of rows, whatever comes after them, begin with how many these are
abbrev pub TellsHowMany : List ℕ → ℕ → Type 0
TellsHowMany bytes count = (rows : List (Text × ℕ)) (more rest : List ℕ) → bytes ++ more ≡ list_bytes name_row_bytes rows ++ rest → count ≡ length rows

-- the bytes spell ranges that don't ascend
abbrev pub AreUnorderedRanges : List ℕ → Type 0
AreUnorderedRanges bytes = (ranges : List (Span Text)) × (bytes ≡ list_bytes range_bytes ranges) × ¬ (AreRanges text_order ranges)

-- the bytes spell rows that don't ascend
abbrev pub AreUnorderedRows : List ℕ → Type 0
AreUnorderedRows bytes = (rows : List (Text × ℕ)) × (bytes ≡ list_bytes name_row_bytes rows) × ¬ (IsMap text_order rows)

-- why bytes were not taken that were not read
abbrev pub wire_fault_of : ReadError → WireFault
wire_fault_of read.Memory = Memory
wire_fault_of (read.Unexpected offset expected) = Malformed
