use Rattle.std.proofs.lemmas.List.Sorted.{IsPermutation-map, IsPermutation-sym}
use Rattle.merkle_diff.specs.DiffRange.{spans, span}
use Rattle.merkle_diff.proofs.Ranges.{merge-permuted}
use Rattle.merkle_diff.proofs.merge.merged.Goals as goal

pub returns : goal.returns
returns g c =
    merge-permuted g.K.Ord.cmp (spans c.sort_by_start.new.ranges.items) (spans c.args.ranges.items) (spans c.merge_overlapping.new.ranges.items)
    (IsPermutation-map span c.sort_by_start.new.ranges.items c.args.ranges.items (IsPermutation-sym c.args.ranges.items c.sort_by_start.new.ranges.items c.sort_by_start.ensures.same))
    c.merge_overlapping.ensures.merged
