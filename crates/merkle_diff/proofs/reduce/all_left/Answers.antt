use Rattle.std.proofs.Common.{◌++◌, ◌+◌, ◌<◌, ◌≤◌, drop, length, sym, ◌∙◌, ap, arith}
use Rattle.std.proofs.lemmas.List.{append-nil}
use Rattle.merkle_diff.proofs.OnePass.{apart-drop, left-none, step-range}
use Rattle.merkle_diff.proofs.Slices.{drop-view, drop-past}
use Rattle.merkle_diff.specs.Cut.{pieces_left}
use Rattle.merkle_diff.specs.DiffRange.{span, spans}
use Rattle.merkle_diff.proofs.reduce.all_left.Goals as goal

pub bad-preserved : goal.bad-preserved
bad-preserved g c =
    let cmp = g.K.Ord.cmp in
    let o = g.met.K.Ord.total in
    let x = c.index-bad-i.result in
    let n : c.bad.i < length c.args.bad.now = omega arith in
    let v = drop-view span c.bad.i x c.args.bad.now c.index-bad-i.is n in
    step-range cmp o (span x) (spans (drop c.bad.i c.args.bad.now)) (spans (drop (c.bad.i + 1) c.args.bad.now)) (spans (drop c.bad.next c.args.good.now))
    (spans (drop c.in_ok-next.next c.args.good.now))
    (spans c.bad.pieces.items) (spans c.push_left.new.pieces.items) (pieces_left cmp (spans c.args.bad.now) (spans c.args.good.now)) v
    (apart-drop cmp o span c.bad.i c.args.bad.now c.requires.bad) c.in_ok-next.ensures.rest c.in_ok-next.ensures.pieces c.bad.invariant

pub returns-clause-left : goal.returns-clause-left
returns-clause-left g c =
    let cmp = g.K.Ord.cmp in
    let h : length c.args.bad.now ≤ c.bad.i = omega arith in
    let e = ap (λ xs. pieces_left cmp (spans xs) (spans (drop c.bad.next c.args.good.now))) (drop-past c.bad.i c.args.bad.now h) ∙ left-none cmp (spans (drop c.bad.next c.args.good.now)) in
    sym (append-nil (spans c.bad.pieces.items)) ∙ (ap (λ xs. spans c.bad.pieces.items ++ xs) (sym e) ∙ c.bad.invariant)
