-- What becomes of a map as rows are set one after the other.
use Rattle.std.proofs.Common.{◌≡◌, ℕ, ◌<◌, ◌≤◌, ◌^◌, false, List, [], ◌∷◌, ◌++◌, length, map, take, sym, ap, subst, ◌∙◌, arith}
use Rattle.std.proofs.Math.Seq.{take-append_seam}
use Rattle.std.proofs.lemmas.Grind.{flat_map-append}
use Rattle.std.proofs.lemmas.Bool.{false≢true}
use Rattle.std.proofs.lemmas.List.{append-nil, length-append, length-map, nil_from_length}
use Rattle.std.specs.Bool.{⊤}
use Rattle.std.specs.List.{AllByRecursion, flat_map}
use Rattle.key_order.specs.Map.{set}
use Rattle.merkle_digest.specs.SipHash.{siphash128}
use Rattle.c_trees.specs.Lists.{AreManyRows, AreSet, AreSetOf, set_rows}
use Rattle.c_trees.specs.Spots.{AreEntries, EntryParts, IsParts, IsTwo, two_part_entry}
use Rattle.c_trees.specs.Trees.{ByteState, IsSet}
use Rattle.c_values.specs.Keys.{bytes_cmp, pairs_of}
use Rattle.c_values.specs.Lists.{sized_row}
use Rattle.c_trees.proofs.Lists.{behind, each_trivial}
use Rattle.c_trees.proofs.Ranges.{row_ends}

set_more : (h : List ℕ → List ℕ) (m rows : List (List ℕ × List ℕ)) (r : List ℕ × List ℕ) → set_rows h m (rows ++ r ∷ []) ≡ set bytes_cmp (set_rows h m rows) r.0 (h r.1)
set_more h m [] r = λ i. set bytes_cmp m r.0 (h r.1)
set_more h m (x ∷ xs) r = set_more h (set bytes_cmp m x.0 (h x.1)) xs r

-- one row more was set
pub one_set : (rows : List (List ℕ × List ℕ)) (r : List ℕ × List ℕ) (a b c : ByteState) → AreSet rows a b → IsSet r.0 r.1 b c → AreSet (rows ++ r ∷ []) a c
one_set rows r a b c before after = record {
  pairs = after.rows ∙ (λ i. set bytes_cmp (before.pairs i) r.0 (siphash128 (before.settings.0 i).key r.1)) ∙ sym (set_more (siphash128 a.hasher.key) (pairs_of a) rows r);
  settings = (after.settings.0 ∙ before.settings.0, after.settings.1 ∙ before.settings.1, after.settings.2 ∙ before.settings.2);
}

-- the rows in front of others were set
pub front_set : (count n : ℕ) (all done : List (List ℕ × List ℕ)) (body rest : List ℕ) (a b : ByteState) → length body < 2 ^ 64
    → length all ≡ count → body ≡ flat_map sized_row all → length done ≡ n → n ≤ count → body ≡ flat_map sized_row done ++ rest → AreSet done a b → AreSetOf count body n a b
front_set count n all done body rest a b short all_of e done_of low f are =
    let left = behind (λ _. ⊤) sized_row row_ends all done rest (each_trivial all) (each_trivial done) (omega (arith, all_of, done_of)) (omega (arith, ap length e)) (sym e ∙ f) in
    let rows = done ++ left.0 in (
      rows,
      omega (arith, length-append done left.0, left.2, all_of),
      f ∙ ap (λ t. flat_map sized_row done ++ t) left.3 ∙ sym (flat_map-append sized_row done left.0),
      low,
      subst (λ xs. AreSet xs a b) (sym (ap (λ k. take k rows) (sym done_of) ∙ take-append_seam done left.0)) are,
    )

-- a row as an entry of a list of rows, and such an entry as a row
abbrev as_entry : List ℕ × List ℕ → EntryParts
as_entry r = (r, [])

abbrev as_row : EntryParts → List ℕ × List ℕ
as_row e = e.0

from_rows : (rows : List (List ℕ × List ℕ)) → AllByRecursion (IsParts false false) (map as_entry rows) × (flat_map sized_row rows ≡ flat_map (two_part_entry false) (map as_entry rows))
from_rows [] = (tt, λ i. [])
from_rows (r ∷ rs) =
    let rest = from_rows rs in
    let none : IsTwo false r = λ wrong. absurd (false≢true wrong) in
    (((none, λ i. 0), rest.0), λ i. sym (append-nil (sized_row r)) i ++ rest.1 i)

to_rows : (es : List EntryParts) → AllByRecursion (IsParts false false) es → flat_map (two_part_entry false) es ≡ flat_map sized_row (map as_row es)
to_rows [] each = λ i. []
to_rows (e ∷ es) each =
    let rest = to_rows es each.1 in
    λ i. (ap (λ t. sized_row e.0 ++ t) (nil_from_length e.1 each.0.1) ∙ append-nil (sized_row e.0)) i ++ rest i

-- this many rows are this many entries of a list of rows
pub entries_from_rows : (count : ℕ) (bytes : List ℕ) → AreManyRows count bytes → AreEntries false false count bytes
entries_from_rows count bytes are =
    let parts = from_rows are.0 in (map as_entry are.0, length-map are.0 as_entry ∙ are.1, parts.0, are.2 ∙ parts.1)

pub rows_from_entries : (count : ℕ) (bytes : List ℕ) → AreEntries false false count bytes → AreManyRows count bytes
rows_from_entries count bytes are = (map as_row are.0, length-map are.0 as_row ∙ are.1, are.3 ∙ to_rows are.0 are.2)
