use Rattle.std.proofs.Common.{◌≡◌, length, sym, ◌∙◌, ap, subst, rules}
use Rattle.std.proofs.lemmas.List.{nil_from_length}
use Rattle.merkle_diff.proofs.Ascents.{IsAscendingByStart, rises-by_start}
use Rattle.merkle_diff.proofs.Cuts.{left-ordered}
use Rattle.merkle_diff.proofs.MergeLaws.{merge-alone}
use Rattle.merkle_diff.proofs.OnePass.{left-touches}
use Rattle.merkle_diff.proofs.Ranges.{spans-ordered}
use Rattle.merkle_diff.proofs.Touching.{apart-touches, touches-ascends}
use Rattle.merkle_diff.specs.Cut.{pieces_left}
use Rattle.merkle_diff.specs.DiffRange.{span, spans}
use Rattle.merkle_diff.specs.Merge.{IsMerge}
use Rattle.merkle_diff.proofs.reduce.cut_apart.Goals as goal

pub returns-then-is_empty-clause-exact : goal.returns-then-is_empty-clause-exact
returns-then-is_empty-clause-exact g c =
    let cmp = g.K.Ord.cmp in
    let bad = spans c.args.bad.items in
    let z : length c.args.good.now ≡ 0 = search rules in
    let e = nil_from_length c.args.good.now z in
    subst (λ gs. IsMerge cmp (pieces_left cmp bad (spans gs)) bad) (sym e) (merge-alone cmp g.met.K.Ord.total bad (spans-ordered c.args.bad.items) c.requires.bad)

pub merge_overlapping-requires : goal.merge_overlapping-requires
merge_overlapping-requires g c =
    let cmp = g.K.Ord.cmp in
    let o = g.met.K.Ord.total in
    let bad = spans c.args.bad.items in
    let good = spans c.args.good.now in
    let e : spans c.in_ok-left.left.items ≡ pieces_left cmp bad good = c.in_ok-left.ensures.left ∙ ap (λ xs. pieces_left cmp (spans xs) good) c.deref.ensures.value in
    rises-by_start cmp o span c.in_ok-left.left.items
    (subst (IsAscendingByStart cmp) (sym e) (touches-ascends cmp o (pieces_left cmp bad good) (left-ordered cmp o bad good (spans-ordered c.args.bad.items))
    (left-touches cmp o bad good (spans-ordered c.args.good.now) (apart-touches cmp o bad c.requires.bad))))
