-- What bytes spell, and what is made of it.
use Rattle.std.specs.Prelude.{◌≡◌, ◌≢◌, ℕ, ◌<◌, ◌≤◌, ◌^◌, List, [], ◌∷◌, ◌++◌, length, map, take}
use Rattle.std.specs.Global.{Vec}
use Rattle.std.specs.List.{AllByRecursion, flat_map}
use Rattle.key_order.specs.Interval.{Span}
use Rattle.key_order.specs.Map.{IsMap, set}
use Rattle.key_order.specs.Order.{Upto}
use Rattle.merkle_digest.specs.SipHash.{siphash128}
use Rattle.merkle_diff.specs.Difference.{IsAnswer}
use Rattle.merkle_diff.specs.Entry.{Entry}
use Rattle.merkle_search_tree.specs.Loading.{digests}
use Rattle.merkle_tree_theory.specs.Ranges.{ranges_of}
use Rattle.merkle_tree_theory.specs.State.{SameSettings, map_of}
use Rattle.c_trees.specs.Trees.{ByteState}
use Rattle.c_values.specs.Keys.{by_key, bytes_cmp, key_items, key_cmp, pairs_of}
use Rattle.c_trees.specs.Wire.{page_ranges_bytes, key_ranges_bytes, range_entry, digest_bytes, digest_list}
use Rattle.c_values.specs.Lists.{sized_row, row_list}

-- an entry of a list of page ranges has a digest of 16 bytes, and its first key is at most its last
abbrev pub IsPageRange : Entry (List ℕ) (List ℕ) → Type 0
IsPageRange e = (length e.digest ≡ 16) × Upto bytes_cmp e.first e.last

-- the bytes are the list of these page ranges
abbrev pub ArePageRanges : List ℕ → List (Entry (List ℕ) (List ℕ)) → Type 0
ArePageRanges bytes es = (bytes ≡ page_ranges_bytes es) × AllByRecursion IsPageRange es

-- the list of these page ranges has this many bytes, and some it has
abbrev pub IsLengthOf : List (Entry (List ℕ) (List ℕ)) → ℕ → Type 0
IsLengthOf es len = (0 < len) × ((bytes : List ℕ) × ArePageRanges bytes es × (len ≡ length bytes))

-- a key and 16 bytes of digest
abbrev pub HasDigest : List ℕ × List ℕ → Type 0
HasDigest row = length row.1 ≡ 16

-- the bytes are the list of these rows, which ascend by key
abbrev pub AreRows : List ℕ → List (List ℕ × List ℕ) → Type 0
AreRows bytes rows = (bytes ≡ row_list rows) × IsMap bytes_cmp rows

-- the map is these pairs, which ascend by key, and the settings stay
abbrev pub HasPairs : List (Vec ℕ × List ℕ) → ByteState → ByteState → Type 0
HasPairs pairs old new = (map_of new ≡ pairs) × IsMap key_cmp pairs × SameSettings old new

-- the map is the rows that the bytes spell, each with the digest of its value, and the settings stay
abbrev pub IsLoaded : List ℕ → ByteState → ByteState → Type 0
IsLoaded bytes old new = (rows : List (List ℕ × List ℕ)) × AreRows bytes rows × (pairs_of new ≡ digests (siphash128 old.hasher.key) rows) × SameSettings old new

-- the bytes are this many rows, whatever the order of their keys
abbrev pub AreManyRows : ℕ → List ℕ → Type 0
AreManyRows count bytes = (rows : List (List ℕ × List ℕ)) × (length rows ≡ count) × (bytes ≡ flat_map sized_row rows)

-- the map with these rows set one after the other, each to the digest of its value
abbrev pub set_rows : (List ℕ → List ℕ) → List (List ℕ × List ℕ) → List (List ℕ × List ℕ) → List (List ℕ × List ℕ)
set_rows hash pairs [] = pairs
set_rows hash pairs (r ∷ rs) = set_rows hash (set bytes_cmp pairs r.0 (hash r.1)) rs

-- the map has these rows set one after the other, and the settings stay
pub record AreSet (rows : List (List ℕ × List ℕ)) (old new : ByteState) : Type 0 where
  pub pairs : pairs_of new ≡ set_rows (siphash128 old.hasher.key) (pairs_of old) rows
  pub settings : SameSettings old new

-- the bytes are this many rows, of which the first `done` were set
abbrev pub AreSetOf : ℕ → List ℕ → ℕ → ByteState → ByteState → Type 0
AreSetOf count bytes done old new =
    (rows : List (List ℕ × List ℕ)) × (length rows ≡ count) × (bytes ≡ flat_map sized_row rows) × (done ≤ count) × AreSet (take done rows) old new

-- the rows that the bytes spell, whatever the order of their keys, were all set, and there are this many of them
abbrev pub AllSet : List ℕ → ℕ → ByteState → ByteState → Type 0
AllSet bytes count old new = (rows : List (List ℕ × List ℕ)) × (bytes ≡ row_list rows) × (count ≡ length rows) × AreSet rows old new

-- of the rows that the bytes spell, the first ones were set, this many, and not all
abbrev pub FirstSet : List ℕ → ℕ → ByteState → ByteState → Type 0
FirstSet bytes count old new = (rows : List (List ℕ × List ℕ)) × (bytes ≡ row_list rows) × (count < length rows) × AreSet (take count rows) old new

-- the bytes are the list of these keys, which ascend, each with 16 bytes of digest
abbrev pub AreDigests : List ℕ → List (List ℕ × List ℕ) → Type 0
AreDigests bytes rows = (bytes ≡ digest_list rows) × AllByRecursion HasDigest rows × IsMap bytes_cmp rows

-- the map is what the bytes spell, and the settings stay
abbrev pub AreLoaded : List ℕ → ByteState → ByteState → Type 0
AreLoaded bytes old new = AreDigests bytes (pairs_of new) × SameSettings old new

-- the bytes are the list of the key ranges that `diff` may answer on the page ranges that local and peer spell
abbrev pub IsDiffOf : List ℕ → List ℕ → List ℕ → Type 0
IsDiffOf local peer bytes =
    (ls : List (Entry (List ℕ) (List ℕ))) × (ps : List (Entry (List ℕ) (List ℕ))) × (found : List (Span (List ℕ)))
    × ArePageRanges local ls × ArePageRanges peer ps × IsAnswer bytes_cmp ls ps found × (bytes ≡ key_ranges_bytes found)

-- an entry by the bytes of its keys
abbrev pub entry_by_bytes : Entry (Vec ℕ) (List ℕ) → Entry (List ℕ) (List ℕ)
entry_by_bytes e = record { first = e.first.items; last = e.last.items; digest = e.digest }

-- the page ranges of a tree, by the bytes of their keys
abbrev pub page_ranges_of : ByteState → List (Entry (List ℕ) (List ℕ))
page_ranges_of s = map entry_by_bytes (ranges_of s.format key_items s.root)

-- bytes spell one value at most
abbrev pub SpellOne : {X : Type 0} → (List ℕ → X → Type 0) → Type 0
SpellOne {X} Spells = (bytes : List ℕ) (x y : X) → length bytes < 2 ^ 64 → Spells bytes x → Spells bytes y → x ≡ y

-- the bytes are the list of these key ranges
abbrev pub AreKeyRanges : List ℕ → List (Span (List ℕ)) → Type 0
AreKeyRanges bytes ss = bytes ≡ key_ranges_bytes ss

-- the bytes begin with this page range
abbrev pub BeginsWithRange : List ℕ → Entry (List ℕ) (List ℕ) → List ℕ → Type 0
BeginsWithRange bytes e rest = (bytes ≡ range_entry e ++ rest) × IsPageRange e

-- they begin with none
abbrev pub BeginsWithNoRange : List ℕ → Type 0
BeginsWithNoRange bytes = (e : Entry (List ℕ) (List ℕ)) (rest : List ℕ) → IsPageRange e → bytes ≢ range_entry e ++ rest

-- they begin with no key that has a digest
abbrev pub BeginsWithNoDigest : List ℕ → Type 0
BeginsWithNoDigest bytes = (row : List ℕ × List ℕ) (rest : List ℕ) → HasDigest row → bytes ≢ digest_bytes row ++ rest

-- the bytes are not this many page ranges
abbrev pub AreNotSoManyRanges : ℕ → List ℕ → Type 0
AreNotSoManyRanges count bytes =
    (es : List (Entry (List ℕ) (List ℕ))) → AllByRecursion IsPageRange es → length es ≡ count → bytes ≢ flat_map range_entry es

-- they are not this many rows
abbrev pub AreNotSoManyRows : ℕ → List ℕ → Type 0
AreNotSoManyRows count bytes = (given : List (List ℕ × List ℕ)) → length given ≡ count → bytes ≢ flat_map sized_row given

-- they are not this many keys with digests
abbrev pub AreNotSoManyDigests : ℕ → List ℕ → Type 0
AreNotSoManyDigests count bytes =
    (given : List (List ℕ × List ℕ)) → AllByRecursion HasDigest given → length given ≡ count → bytes ≢ flat_map digest_bytes given

-- they are no list of keys with digests
abbrev pub IsNoDigestList : List ℕ → Type 0
IsNoDigestList bytes = (given : List (List ℕ × List ℕ)) → AllByRecursion HasDigest given → bytes ≢ digest_list given

-- they are not both lists of page ranges
abbrev pub AreNotBothRanges : List ℕ → List ℕ → Type 0
AreNotBothRanges local peer = (ls ps : List (Entry (List ℕ) (List ℕ))) → ArePageRanges local ls → ¬ (ArePageRanges peer ps)

-- the bytes are this many rows, and these have the digests of their values under a key
abbrev pub DigestsSoManyRows : ℕ → List ℕ → List ℕ → Vec (Vec ℕ × List ℕ) → Type 0
DigestsSoManyRows count bytes key rows = (given : List (List ℕ × List ℕ)) × (bytes ≡ flat_map sized_row given) × (length given ≡ count)
    × (map by_key rows.items ≡ digests (siphash128 key) given)

-- the same of a list of rows
abbrev pub DigestsRows : List ℕ → List ℕ → Vec (Vec ℕ × List ℕ) → Type 0
DigestsRows bytes key rows =
    (given : List (List ℕ × List ℕ)) × (bytes ≡ row_list given) × (map by_key rows.items ≡ digests (siphash128 key) given)

-- the bytes tell a tree's page ranges
abbrev pub TellsRanges : ByteState → List ℕ → Type 0
TellsRanges s bytes = ArePageRanges bytes (page_ranges_of s)

-- they tell its map, with the digests of values
abbrev pub TellsDigests : ByteState → List ℕ → Type 0
TellsDigests s bytes = bytes ≡ digest_list (pairs_of s)
