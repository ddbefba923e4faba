-- A snapshot of clones of page ranges.
use Rattle.std.specs.Prelude.{List}
use Rattle.std.specs.declared.cmp.Ordering.{Ordering}
use Rattle.merkle_digest.specs.declared.PageDigest.{PageDigest}
use Rattle.merkle_diff.specs.Entry.{Entry}
use Rattle.merkle_diff.specs.PageRange.{entries}
use Rattle.merkle_diff.specs.SameEntries.{SameEntries}
use Rattle.merkle_diff.specs.declared.page_range.PageRange.{PageRange}

-- the entries of the snapshot are equal to those of a list of page ranges that is given
abbrev pub HasClonesOf : {K : Type 0} {o e p : _} → (K → K → Ordering) → (List (PageRange K o e p) → Type 0) → List (Entry K PageDigest) → Type 0
HasClonesOf {K} {o} {e} {p} cmp IsGiven snapshot =
    (ranges : List (PageRange K o e p)) × IsGiven ranges × SameEntries cmp (entries ranges) snapshot
