-- The messages of a pull between two stores, as bytes.
use Rattle.std.specs.Prelude.{◌≡◌, ◌⊎◌, ℕ, ◌<◌, ◌≤◌, List, length, take, max, nat_eq, string_bytes}
use Rattle.std.specs.List.{AllByRecursion}
use Rattle.key_order.specs.Interval.{Span}
use Rattle.key_order.specs.Join.{IsJoin}
use Rattle.key_order.specs.Map.{IsMap, rows_in}
use Rattle.key_order.specs.Text.{Text, text_order}
use Rattle.merkle_bytes.specs.Encodings.{list_bytes}
use Rattle.merkle_diff.specs.Entry.{Entry}
use Rattle.merkle_tree_theory.specs.Ranges.{ranges_of}
use Rattle.merkle_tree_theory.specs.State.{State}
use Rattle.merkle_replica.specs.Contents.{Side}
use Rattle.merkle_replica.specs.Pulls.{Answer, HasRanges, IsPartOfPull, IsPull}
use Rattle.merkle_replica.specs.Steps.{IsAnswerTo}
use Rattle.examples.specs.StoreLaws.{store_laws}
use Rattle.examples.specs.Wire.{IsNameRange, HasWideNumber, page_range_bytes, range_bytes, name_row_bytes}

-- the bytes spell the page ranges of the tree
abbrev pub SpellsPages : State Text (List ℕ) → List ℕ → Type 0
SpellsPages tree bytes = bytes ≡ list_bytes page_range_bytes (ranges_of tree.format string_bytes tree.root)

-- the bytes spell the page ranges of the peer
abbrev pub SendsPageRanges : Side Text ℕ (List ℕ) → List ℕ → Type 0
SendsPageRanges peer sent =
    (theirs : List (Entry Text (List ℕ))) × HasRanges store_laws peer theirs × AllByRecursion IsNameRange theirs × (sent ≡ list_bytes page_range_bytes theirs)

-- the bytes that came spell page ranges, and those that are sent the ranges that local may ask of a peer that sent these
abbrev pub AsksByMessage : Side Text ℕ (List ℕ) → List ℕ → List ℕ → Type 0
AsksByMessage local came sent =
    (theirs : List (Entry Text (List ℕ))) × (found : List (Span Text)) × AllByRecursion IsNameRange theirs × (came ≡ list_bytes page_range_bytes theirs)
    × IsAnswerTo store_laws local theirs found × (sent ≡ list_bytes range_bytes found)

-- the bytes that came spell ranges, and those that are sent the rows of the peer in these
abbrev pub SendsRows : Side Text ℕ (List ℕ) → List ℕ → List ℕ → Type 0
SendsRows peer came sent =
    (ranges : List (Span Text)) × (came ≡ list_bytes range_bytes ranges)
    × AllByRecursion HasWideNumber (rows_in text_order ranges peer.rows) × (sent ≡ list_bytes name_row_bytes (rows_in text_order ranges peer.rows))

-- the bytes that came spell rows, and local has the join with these after
abbrev pub JoinsSpelledRows : Side Text ℕ (List ℕ) → List ℕ → List (Text × ℕ) → Type 0
JoinsSpelledRows local came after =
    (rows : List (Text × ℕ)) × AllByRecursion HasWideNumber rows × (came ≡ list_bytes name_row_bytes rows) × IsJoin text_order nat_eq max local.rows rows after

-- the bytes that came spell rows, and local has the join with the first of these after, some but not all
abbrev pub JoinsFirstRows : Side Text ℕ (List ℕ) → List ℕ → List (Text × ℕ) → Type 0
JoinsFirstRows local came after =
    (rows : List (Text × ℕ)) × (done : ℕ) × AllByRecursion HasWideNumber rows × (came ≡ list_bytes name_row_bytes rows)
    × (1 ≤ done) × (done < length rows) × IsJoin text_order nat_eq max local.rows (take done rows) after

-- such a join ran out of memory: local has its rows, or the join with the first of these
abbrev pub StopsJoining : Side Text ℕ (List ℕ) → List ℕ → List (Text × ℕ) → Type 0
StopsJoining local came after = (after ≡ local.rows) ⊎ JoinsFirstRows local came after

-- local has pulled from the peer, and has these rows after
abbrev pub HasPulledByMessages : Side Text ℕ (List ℕ) → Side Text ℕ (List ℕ) → List (Text × ℕ) → Type 0
HasPulledByMessages local peer after = (answer : Answer Text) × IsPull store_laws local peer answer after

-- local has made a part of a pull from the peer, and has these rows after
abbrev pub HasPulledInPart : Side Text ℕ (List ℕ) → Side Text ℕ (List ℕ) → List (Text × ℕ) → Type 0
HasPulledInPart local peer after = (answer : Answer Text) × (done : ℕ) × IsPartOfPull store_laws local peer answer done after

-- a pull ran out of memory: local has its rows, or has made a part of the pull
abbrev pub StopsPullByMessages : Side Text ℕ (List ℕ) → Side Text ℕ (List ℕ) → List (Text × ℕ) → Type 0
StopsPullByMessages local peer after = (after ≡ local.rows) ⊎ HasPulledInPart local peer after

-- the four messages are a pull
abbrev pub MessagesAreAPull : Type 0
MessagesAreAPull =
    (local peer : Side Text ℕ (List ℕ)) (ranges asked rows : List ℕ) (after : List (Text × ℕ))
    → IsMap text_order peer.rows → SendsPageRanges peer ranges → AsksByMessage local ranges asked → SendsRows peer asked rows → JoinsSpelledRows local rows after
    → HasPulledByMessages local peer after

-- and a part of one, where the first rows were joined
abbrev pub MessagesArePartOfAPull : Type 0
MessagesArePartOfAPull =
    (local peer : Side Text ℕ (List ℕ)) (ranges asked rows : List ℕ) (after : List (Text × ℕ))
    → IsMap text_order peer.rows → SendsPageRanges peer ranges → AsksByMessage local ranges asked → SendsRows peer asked rows → JoinsFirstRows local rows after
    → HasPulledInPart local peer after
