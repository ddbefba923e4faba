use Rattle.std.proofs.Common.{◌≡◌, ◌≤◌, length, drop, subst, sym, ap, ◌∙◌, arith}
use Rattle.merkle_diff.specs.Merge.{IsMerge}
use Rattle.merkle_diff.specs.DiffRange.{span, spans}
use Rattle.merkle_diff.specs.Sweep.{sweep_of}
use Rattle.merkle_diff.proofs.Ascents.{ascends-by_start}
use Rattle.merkle_diff.proofs.MergeLaws.{merge-to, merge-from, merge-is_apart}
use Rattle.merkle_diff.proofs.SweepIsMerge.{swept-merge}
use Rattle.merkle_diff.proofs.Ranges.{spans-ordered}
use Rattle.merkle_diff.proofs.Slices.{take-filled}
use Rattle.merkle_diff.proofs.merge.merge_overlapping.Goals as goal

pub returns-clause-merged : goal.returns-clause-merged
returns-clause-merged g c =
    let new = c.merge_to_front-kept.new.ranges in
    let kept = c.merge_to_front-kept.result in
    let items = c.args.ranges.now.items in
    let m = swept-merge g.K.Ord.cmp g.met.K.Ord.total (spans items) (ascends-by_start g.K.Ord.cmp g.met.K.Ord.total span items c.requires) (spans-ordered items) in
    let short : kept ≤ length new = omega arith in
    let long : length new ≡ c.args.ranges.now.len = omega arith in
    let e = c.truncate.ensures.items ∙ take-filled kept c.args.ranges.now.len new (drop (length new) items) short long in
    subst (IsMerge g.K.Ord.cmp (spans items)) (ap (λ xs. sweep_of g.K.Ord.cmp (spans xs)) (sym c.as_mut_slice.ensures.value) ∙ (sym c.merge_to_front-kept.ensures.merged ∙ sym (ap spans e))) m

pub returns-clause-same_keys : goal.returns-clause-same_keys
returns-clause-same_keys g c = λ k.
    let items = c.args.ranges.now.items in
    let new = c.truncate.new.self.items in (
      merge-to g.K.Ord.cmp g.met.K.Ord.total k (spans items) (spans new) (spans-ordered items) (returns-clause-merged g c),
      merge-from g.K.Ord.cmp g.met.K.Ord.total k (spans items) (spans new) (spans-ordered items) (returns-clause-merged g c),
    )

pub returns-clause-apart : goal.returns-clause-apart
returns-clause-apart g c =
    let items = c.args.ranges.now.items in
    merge-is_apart g.K.Ord.cmp g.met.K.Ord.total (spans items) (spans c.truncate.new.self.items) (spans-ordered items) (returns-clause-merged g c)
