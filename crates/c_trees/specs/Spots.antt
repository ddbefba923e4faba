-- The entries of a list, and where they lie.
use Rattle.std.specs.Prelude.{◌≡◌, ◌≢◌, ◌⊎◌, ℕ, ◌+◌, Bool, true, not, ◌&&◌, if◌then◌else◌, nat_eq, List, ◌++◌, length}
use Rattle.std.specs.List.{AllByRecursion, flat_map}
use Rattle.c_trees.specs.Lists.{HasDigest}
use Rattle.c_trees.specs.Wire.{digest_bytes, page_mark, key_mark, digest_mark}
use Rattle.c_values.specs.Lists.{number_bytes, sized_row, row_mark}
use Rattle.c_trees.specs.declared.entries.MstSpot.{MstSpot}

-- the mark of a list, by whether it is one of rows, and whether its entries have digests
abbrev pub list_mark : Bool → Bool → List ℕ
list_mark rows digests = if rows then (if digests then digest_mark else row_mark) else (if digests then page_mark else key_mark)

-- how long the digest after the two parts of an entry is
abbrev pub digest_len : Bool → ℕ
digest_len hashed = if hashed then 16 else 0

-- how long the length in front of the second part is, which a digest doesn't have
abbrev pub gap_len : Bool → ℕ
gap_len plain = if plain then 0 else 8

-- the two keys of a range, or the key and the value of a row; and the digest after them
abbrev pub EntryParts : Type 0
EntryParts = (List ℕ × List ℕ) × List ℕ

-- the bytes of two parts: two strings, or a key and the digest of its value
abbrev pub two_bytes : Bool → List ℕ × List ℕ → List ℕ
two_bytes plain two = if plain then digest_bytes two else sized_row two

-- a digest as the second part has its length
abbrev pub IsTwo : Bool → List ℕ × List ℕ → Type 0
IsTwo plain two = plain ≡ true → HasDigest two

-- the bytes of an entry
abbrev pub two_part_entry : Bool → EntryParts → List ℕ
two_part_entry plain e = two_bytes plain e.0 ++ e.1

-- the digests of an entry have their length
abbrev pub IsParts : Bool → Bool → EntryParts → Type 0
IsParts plain hashed e = IsTwo plain e.0 × (length e.1 ≡ digest_len hashed)

-- the bytes are this many entries, whose second part is a digest or a string, and which have a digest after it or none
abbrev pub AreEntries : Bool → Bool → ℕ → List ℕ → Type 0
AreEntries plain hashed count bytes = (es : List EntryParts) × (length es ≡ count) × AllByRecursion (IsParts plain hashed) es × (bytes ≡ flat_map (two_part_entry plain) es)

-- the bytes are a list of rows or of digests, or else of page ranges or of key ranges, whatever the order of its keys
abbrev pub IsList : Bool → List ℕ → Type 0
IsList rows list = (digests : Bool) × (count : ℕ) × (body : List ℕ) × (list ≡ list_mark rows digests ++ (number_bytes count ++ body)) × AreEntries (rows && digests) (not rows && digests) count body

-- the mark of either kind of list stands in front, and a number after it
abbrev pub HasFront : Bool → List ℕ → Type 0
HasFront rows list = (digests : Bool) × (count : ℕ) × (body : List ℕ) × (list ≡ list_mark rows digests ++ (number_bytes count ++ body))

-- neither mark does
abbrev pub HasNoMark : Bool → List ℕ → Type 0
HasNoMark rows list = (digests : Bool) (count : ℕ) (body : List ℕ) → list ≢ list_mark rows digests ++ (number_bytes count ++ body)

-- the bytes begin with these two parts
abbrev pub BeginsWithTwo : Bool → List ℕ → List ℕ × List ℕ → List ℕ → Type 0
BeginsWithTwo plain bytes two rest = IsTwo plain two × (bytes ≡ two_bytes plain two ++ rest)

-- they begin with no two parts
abbrev pub BeginsWithNoTwo : Bool → List ℕ → Type 0
BeginsWithNoTwo plain bytes = (two : List ℕ × List ℕ) (rest : List ℕ) → IsTwo plain two → bytes ≢ two_bytes plain two ++ rest

-- they begin with an entry that has these two parts
abbrev pub BeginsWithEntry : Bool → Bool → List ℕ → List ℕ × List ℕ → List ℕ → Type 0
BeginsWithEntry plain hashed bytes two rest =
    (digest : List ℕ) × IsParts plain hashed (two, digest) × (bytes ≡ two_part_entry plain (two, digest) ++ rest)

-- they begin with no entry
abbrev pub BeginsWithNoEntry : Bool → Bool → List ℕ → Type 0
BeginsWithNoEntry plain hashed bytes = (e : EntryParts) (rest : List ℕ) → IsParts plain hashed e → bytes ≢ two_part_entry plain e ++ rest

-- the second part of an entry lies after the first one, and is as long as this
abbrev pub HasSecond : Bool → List ℕ → MstSpot → Type 0
HasSecond plain second spot = (spot.last_at ≡ spot.first_at + spot.first_len + gap_len plain) × (spot.last_len ≡ length second)

-- the list's mark stands in front, and an entry of its kind lies where the spot says: it begins at `old`, or after the mark and the
-- number where that is 0, and then the whole is a list; and it ends at `new`
pub record IsEntryAt (rows : Bool) (list : List ℕ) (old new : ℕ) (spot : MstSpot) : Type 0 where
  pub digests : Bool
  pub count : ℕ
  pub body : List ℕ
  pub marked : list ≡ list_mark rows digests ++ (number_bytes count ++ body)
  pub whole : old ≡ 0 → AreEntries (rows && digests) (not rows && digests) count body
  pub before : List ℕ
  pub entry : EntryParts
  pub behind : List ℕ
  pub parts : list ≡ before ++ (two_part_entry (rows && digests) entry ++ behind)
  pub sized : IsParts (rows && digests) (not rows && digests) entry
  pub starts : length before ≡ (if nat_eq old 0 then 12 else old)
  pub first : (spot.first_at ≡ length before + 8) × (spot.first_len ≡ length entry.0.0)
  pub last : (spot.last_at ≡ spot.first_at + spot.first_len + gap_len (rows && digests)) × (spot.last_len ≡ length entry.0.1)
  pub digest : spot.digest_at ≡ (if not rows && digests then spot.last_at + spot.last_len else 0)
  pub ends : new + length behind ≡ length list

-- an entry of the kind of the list's mark begins there
abbrev pub HasEntryAt : Bool → List ℕ → ℕ → Type 0
HasEntryAt rows list at = (behind : ℕ) × (spot : MstSpot) × IsEntryAt rows list at behind spot

-- entries can be read from a place: the list's mark stands in front, and where that is the beginning, the whole is a list
abbrev pub IsReadable : Bool → List ℕ → ℕ → Type 0
IsReadable rows list at = HasFront rows list × (at ≡ 0 → IsList rows list)

-- no entry of the kind of the list's mark begins at a place, and where that is the beginning, the whole is no list
abbrev pub HasNoEntryAt : Bool → List ℕ → ℕ → Type 0
HasNoEntryAt rows list at = ¬ (HasEntryAt rows list at) × (at ≡ 0 → ¬ (IsList rows list))

-- a place is after the last entry: at the end, or at the beginning of a list without entries
abbrev pub IsAfterLast : List ℕ → ℕ → Type 0
IsAfterLast list at = (at ≡ length list) ⊎ ((at ≡ 0) × (length list ≡ 12))
