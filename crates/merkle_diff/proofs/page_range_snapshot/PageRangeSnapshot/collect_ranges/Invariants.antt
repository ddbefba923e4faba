use Rattle.merkle_diff.specs.SameEntries.{SameEntries}
use Rattle.merkle_diff.specs.PageRange.{entries}
use Rattle.merkle_diff.proofs.page_range_snapshot.PageRangeSnapshot.collect_ranges.Given as goal

abbrev pub invariant-clones : goal.invariant-clones
invariant-clones g l = SameEntries g.K.Ord.cmp (entries l.yielded) l.ranges.items
