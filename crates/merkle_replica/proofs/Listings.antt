-- What the laws on page ranges and on trees say of every map.
use Rattle.std.proofs.Common.{ℕ, List}
use Rattle.key_order.specs.Map.{IsMap}
use Rattle.merkle_diff.specs.Entry.{Entry}
use Rattle.merkle_diff.specs.SameEntries.{SameEntries}
use Rattle.merkle_diff.specs.TreeShape.{IsTreeShaped}
use Rattle.merkle_tree_theory.specs.Listing.{ListsPages}
use Rattle.merkle_tree_theory.specs.Ranges.{IsRangesOf}
use Rattle.merkle_tree_theory.specs.declared.page_format.PageFormat.{PageFormat}
use Rattle.merkle_replica.specs.Laws.{Laws}
use Rattle.merkle_replica.specs.Contents.{Side}
use Rattle.merkle_replica.specs.Pulls.{HasRanges}

module _ {K V H : Type 0} (laws : Laws K V H) where
  -- they are tree-shaped
  abbrev pub AreShaped : Type 0
  AreShaped = (hasher : H) (base : ℕ) (format : PageFormat) (m : List (K × List ℕ)) (es : List (Entry K (List ℕ))) → IsMap laws.cmp m
      → IsRangesOf laws.cmp (laws.key_digest hasher) base format laws.bytes_of m es → IsTreeShaped laws.cmp es

  -- they say where the pages of the map are
  abbrev pub AreListings : Type 0
  AreListings = (hasher : H) (base : ℕ) (format : PageFormat) (m : List (K × List ℕ)) (es : List (Entry K (List ℕ))) → IsMap laws.cmp m
      → IsRangesOf laws.cmp (laws.key_digest hasher) base format laws.bytes_of m es → ListsPages laws.cmp (laws.key_digest hasher) base format laws.bytes_of m es

  -- a side has one list of page ranges, up to equal keys
  abbrev pub HaveOneList : Type 0
  HaveOneList = (s : Side K V H) (es fs : List (Entry K (List ℕ))) → HasRanges laws s es → HasRanges laws s fs → SameEntries laws.cmp es fs
