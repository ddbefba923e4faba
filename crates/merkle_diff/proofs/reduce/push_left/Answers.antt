use Rattle.std.proofs.Common.{◌≡◌, ◌++◌, [], ◌∷◌, ◌+◌, ◌<◌, true, false, drop, length, rules, sym, ◌∙◌, ap, arith, subst}
use Rattle.key_order.specs.Order.{upto}
use Rattle.merkle_diff.proofs.OnePass.{apart-drop, step-behind, step-within, step-over, step-later}
use Rattle.merkle_diff.proofs.Slices.{drop-view}
use Rattle.merkle_diff.proofs.OrderTests.{by_upto, by_above}
use Rattle.merkle_diff.specs.Cut.{pieces_left, cut_one, piece}
use Rattle.merkle_diff.specs.DiffRange.{span, spans}
use Rattle.merkle_diff.specs.OnePass.{LeavesAlike}
use Rattle.merkle_diff.proofs.reduce.push_left.Goals as goal
use Rattle.merkle_diff.proofs.reduce.push_left.Goals.{then-is_upto-2+in_ok-push_piece, else-is_upto-2}

pub returns-then-is_upto-clause-pieces : goal.returns-then-is_upto-clause-pieces
returns-then-is_upto-clause-pieces g c =
    let cmp = g.K.Ord.cmp in
    let x = c.index-good-next.result in
    let n : c.good.next < length c.args.good.now = omega arith in
    let v = drop-view span c.good.next x c.args.good.now c.index-good-next.is n in
    let t : upto cmp (span c.good.left).last (span x).last ≡ true = search rules in
    let e : spans c.push_pieces.new.pieces.items ≡ spans c.good.pieces.items ++ cut_one cmp (span x) (span c.good.left) = search rules in
    step-over cmp g.met.K.Ord.total (span c.good.left) (span x) (spans (drop c.good.next c.args.good.now)) (spans (drop (c.good.next + 1) c.args.good.now)) v
    (spans c.good.pieces.items) (spans c.push_pieces.new.pieces.items) (spans c.args.pieces.now.items ++ pieces_left cmp (span c.args.range ∷ []) (spans (drop c.args.first c.args.good.now)))
    x.ordered (apart-drop cmp g.met.K.Ord.total span c.good.next c.args.good.now c.requires) (by_upto cmp g.met.K.Ord.total (span c.good.left).last (span x).last t) e c.good.invariant.pieces

pub good-preserved : goal.good-preserved
good-preserved g c =
    let cmp = g.K.Ord.cmp in
    let o = g.met.K.Ord.total in
    let x = c.index-good-next.result in
    let n : c.good.next < length c.args.good.now = omega arith in
    let v = drop-view span c.good.next x c.args.good.now c.index-good-next.is n in
    let all = spans c.args.pieces.now.items ++ pieces_left cmp (span c.args.range ∷ []) (spans (drop c.args.first c.args.good.now)) in
    let gs = spans (drop c.good.next c.args.good.now) in
    let rest = spans (drop (c.good.next + 1) c.args.good.now) in
    let t : upto cmp (span c.good.left).last (span x).last ≡ false = search rules in
    let b = by_above cmp o (span c.good.left).last (span x).last t in
    let later : LeavesAlike cmp (span c.args.range).last (spans (drop c.args.first c.args.good.now)) rest
    = subst (λ k. LeavesAlike cmp k (spans (drop c.args.first c.args.good.now)) rest) c.good.invariant.end
    (step-later cmp o (span c.good.left) (span x) gs rest v (spans (drop c.args.first c.args.good.now)) b
    (subst (λ k. LeavesAlike cmp k (spans (drop c.args.first c.args.good.now)) gs) (sym c.good.invariant.end) c.good.invariant.rest)) in
    elim c.if-is_upto-2.branch [
      | then-is_upto-2+in_ok-push_piece w ↦
          let u : upto cmp (span c.good.left).first (span x).last ≡ true = search rules in
          let e : spans c.if-is_upto-2.pieces.items ≡ spans c.good.pieces.items ++ piece cmp (span c.good.left).first (span x).first = search rules in
          let l : span c.if-is_upto-2.left ≡ record { first = (span x).last; last = (span c.good.left).last } = search rules in
          record {
            end = ap (λ s. s.last) l ∙ c.good.invariant.end;
            pieces = step-within cmp o (span c.good.left) (span x) gs rest v (spans c.good.pieces.items) (spans c.if-is_upto-2.pieces.items) all (span c.if-is_upto-2.left)
                x.ordered (apart-drop cmp o span c.good.next c.args.good.now c.requires) (by_upto cmp o (span c.good.left).first (span x).last u) b e l c.good.invariant.pieces;
            rest = later;
          }
      | else-is_upto-2 w ↦
          let u : upto cmp (span c.good.left).first (span x).last ≡ false = search rules in
          record {
            end = ap (λ r. (span r).last) w.left-is ∙ c.good.invariant.end;
            pieces = ap (λ ps. spans ps.items ++ pieces_left cmp (span c.if-is_upto-2.left ∷ []) rest) w.pieces-is
                ∙ (ap (λ r. spans c.good.pieces.items ++ pieces_left cmp (span r ∷ []) rest) w.left-is
                ∙ step-behind cmp o (span c.good.left) (span x) gs rest v (spans c.good.pieces.items) all (by_above cmp o (span c.good.left).first (span x).last u) c.good.invariant.pieces);
            rest = later;
          }
    ]
