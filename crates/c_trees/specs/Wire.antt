-- Page ranges, ranges of keys, and rows, as bytes.
use Rattle.std.specs.Prelude.{ℕ, List, [], ◌∷◌, ◌++◌}
use Rattle.std.specs.List.{flat_map}
use Rattle.key_order.specs.Interval.{Span}
use Rattle.merkle_diff.specs.Entry.{Entry}
use Rattle.merkle_search_tree.specs.Loading.{row_count}
use Rattle.c_values.specs.Lists.{number_bytes, sized_bytes, marked_list}

-- an entry of a list of page ranges
abbrev pub range_entry : Entry (List ℕ) (List ℕ) → List ℕ
range_entry e = sized_bytes e.first ++ (sized_bytes e.last ++ e.digest)

-- an entry of a list of key ranges
abbrev pub span_bytes : Span (List ℕ) → List ℕ
span_bytes s = sized_bytes s.first ++ sized_bytes s.last

-- the mark of a list of page ranges, "MSTp"
abbrev pub page_mark : List ℕ
page_mark = 77 ∷ 83 ∷ 84 ∷ 112 ∷ []

-- the mark of a list of key ranges, "MSTk"
abbrev pub key_mark : List ℕ
key_mark = 77 ∷ 83 ∷ 84 ∷ 107 ∷ []

-- a list of page ranges
abbrev pub page_ranges_bytes : List (Entry (List ℕ) (List ℕ)) → List ℕ
page_ranges_bytes = marked_list page_mark range_entry

-- a list of key ranges
abbrev pub key_ranges_bytes : List (Span (List ℕ)) → List ℕ
key_ranges_bytes = marked_list key_mark span_bytes

-- the mark of a list of digests, "MSTd"
abbrev pub digest_mark : List ℕ
digest_mark = 77 ∷ 83 ∷ 84 ∷ 100 ∷ []

-- an entry of a list of digests: a key, and the 16 bytes of the digest of its value
abbrev pub digest_bytes : List ℕ × List ℕ → List ℕ
digest_bytes r = sized_bytes r.0 ++ r.1

-- a list of digests
abbrev pub digest_list : List (List ℕ × List ℕ) → List ℕ
digest_list rows = digest_mark ++ (number_bytes (row_count rows) ++ flat_map digest_bytes rows)
