use Rattle.merkle_diff.specs.DiffRange.{spans}
use Rattle.merkle_diff.proofs.MergeLaws.{merge-to, merge-from, merge-is_apart}
use Rattle.merkle_diff.proofs.Ranges.{spans-ordered}
use Rattle.merkle_diff.proofs.range_list.RangeList.into_vec.Goals as goal

pub returns-clause-apart : goal.returns-clause-apart
returns-clause-apart g c =
    merge-is_apart g.K.Ord.cmp g.met.K.Ord.total (spans c.self.inside.ranges.items) (spans c.merged.result.items) (spans-ordered c.self.inside.ranges.items) c.merged.ensures

pub returns-clause-same_keys : goal.returns-clause-same_keys
returns-clause-same_keys g c =
    let items = c.self.inside.ranges.items in
    let new = c.merged.result.items in
    rw (← c.self.view_is)
    (λ k. (
      merge-to g.K.Ord.cmp g.met.K.Ord.total k (spans items) (spans new) (spans-ordered items) c.merged.ensures,
      merge-from g.K.Ord.cmp g.met.K.Ord.total k (spans items) (spans new) (spans-ordered items) c.merged.ensures,
    ))
