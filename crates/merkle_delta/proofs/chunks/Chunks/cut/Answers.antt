use Rattle.std.proofs.Common.{rules, ◌≡◌, ◌<◌, ◌≤◌, ◌++◌, ◌∷◌, [], length, sym, ap, ◌∙◌}
use Rattle.merkle_delta.proofs.Cutting.{IsCut, cut_ends, cut_goes_on, cut_last, cut_all, chunks_at}
use Rattle.merkle_delta.proofs.chunks.Chunks.cut.Goals as goal
use Rattle.merkle_delta.proofs.chunks.Chunks.cut.Goals.{then-ends_chunk+in_ok-push, else-ends_chunk, then-start-len+in_ok-push-2, else-start-len}

pub bytes-preserved : goal.bytes-preserved
bytes-preserved c =
    let low : c.bytes.at < length c.args.bytes.items = search rules in
    elim c.if-ends_chunk.branch [
      | then-ends_chunk+in_ok-push w ↦ cut_ends c.args.bytes.items c.bytes.ranges.items c.if-ends_chunk.ranges.items c.bytes.window c.window_with-window.result
          c.bytes.start c.bytes.at c.if-ends_chunk.start c.index.result.now
          c.bytes.invariant low c.index.ensures c.window_with-window.ensures (sym c.ends_chunk.ensures ∙ w.if-ends_chunk.true) (ap (λ v. v.items) w.ranges-is ∙ w.in_ok-push.ensures.items) w.start-is
      | else-ends_chunk w ↦ cut_goes_on c.args.bytes.items c.bytes.ranges.items c.if-ends_chunk.ranges.items c.bytes.window c.window_with-window.result
          c.bytes.start c.bytes.at c.if-ends_chunk.start c.index.result.now
          c.bytes.invariant low c.index.ensures c.window_with-window.ensures (sym c.ends_chunk.ensures ∙ w.if-ends_chunk.false) (ap (λ v. v.items) w.ranges-is) w.start-is
    ]

all-cut : (c : goal.Joined-start-len) → IsCut c.args.bytes.items c.if-start-len.ranges.items
all-cut c =
    let end : c.bytes.at ≡ length c.args.bytes.items = search rules in
    elim c.if-start-len.branch [
      | then-start-len+in_ok-push-2 w ↦
          let last : c.if-start-len.ranges.items ≡ c.bytes.ranges.items ++ (c.bytes.start, c.bytes.at) ∷ [] = search rules in
          let low : c.bytes.start < c.bytes.at = search rules in
          cut_last c.args.bytes.items c.bytes.ranges.items c.if-start-len.ranges.items c.bytes.window c.bytes.start c.bytes.at c.bytes.invariant end low last
      | else-start-len w ↦
          let none : c.bytes.at ≤ c.bytes.start = search rules in
          cut_all c.args.bytes.items c.bytes.ranges.items c.if-start-len.ranges.items c.bytes.window c.bytes.start c.bytes.at c.bytes.invariant end none (ap (λ v. v.items) w.ranges-is)
    ]

pub invariant_of-result : goal.invariant_of-result
invariant_of-result c = (all-cut c).1

pub returns : goal.returns
returns c = ap (chunks_at c.args.bytes.items) (all-cut c).0
