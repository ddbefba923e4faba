use Rattle.merkle_diff.specs.PageRange.{entry}
use Rattle.merkle_diff.proofs.Snapshots.{same_entries-taken}
use Rattle.merkle_diff.proofs.page_range_snapshot.PageRangeSnapshot.collect_ranges.Goals as goal

pub clones-preserved : goal.clones-preserved
clones-preserved g c =
    same_entries-taken g.K.Ord.cmp entry c.clones.yielded c.clones.ranges.items c.push.new.self.items c.in-Some.range c.in_ok-from_range.field-0
    c.in_ok-push.ensures.items c.clones.invariant c.in_ok-from_range.ensures.same
