use Rattle.std.proofs.Common.{◌≡◌, ◌<◌, ℕ, List, [], ◌++◌, subst, ap, append-nil, length, arith}
use Rattle.std.proofs.lemmas.Bool.Decides.{nat_tests}
use Rattle.std.proofs.KnownBytes.{Appends-nil}
use Rattle.std.proofs.lemmas.List.{nil_from_length}
use Rattle.mst_pair.proofs.Runs.{cut_last, finishes_err, finishes_flush, reached_last, reached_end}
use Rattle.mst_pair.specs.Engine.{RepliesTo}
use Rattle.mst_pair.proofs.session.Session.finish.Goals as goal
use Rattle.mst_pair.proofs.session.Session.finish.Goals.{then-not-is_empty+in_ok-answer, else-not-is_empty}

-- src/session.rt:51:13
pub returns-in_err-answer-clause-bytes : goal.returns-in_err-answer-clause-bytes
returns-in_err-answer-clause-bytes g c = λ input written r.
    let (reply, step, wrote) = c.in_err-answer.ensures.bytes in
    let (front, rest, split, hides) = wrote in
    let s = c.args.self.now.engine in
    let kept = c.args.self.now.line in
    let here : RepliesTo s kept (front ++ rest) c.answer.new.self =
    subst (λ (k : List ℕ). RepliesTo s k (front ++ rest) c.answer.new.self) c.as_slice-then-not-is_empty.ensures
    (subst (λ (t : List ℕ). RepliesTo s c.as_slice-then-not-is_empty.result.now t c.answer.new.self) split step) in
    let some : 0 < length kept = grind (arith, nat_tests, ap length c.as_slice.ensures) in
    finishes_err _ _ _ _ _ front c.from_residual.ensures.0 hides (cut_last input written s kept front rest c.answer.new.self some r here)

-- src/session.rt:45:5
pub returns-clause-bytes : goal.returns-clause-bytes
returns-clause-bytes g c = λ input written r.
    let s = c.args.self.now.engine in
    let kept = c.args.self.now.line in
    elim c.if-not-is_empty.branch [
      | then-not-is_empty+in_ok-answer w ↦
          let (reply, step, wrote) = w.in_ok-answer.ensures.bytes in
          let some : 0 < length kept = grind (arith, nat_tests, ap length c.as_slice.ensures) in
          let here : RepliesTo s kept reply w.answer.new.self = subst (λ (k : List ℕ). RepliesTo s k reply w.answer.new.self) w.as_slice-then-not-is_empty.ensures step in
          finishes_flush _ input written _ _ _ reply w.answer.new.self wrote (reached_last input written s kept reply w.answer.new.self some r here)
          (rw w.writer-is at c.flush.ensures.ok) (rw w.writer-is at c.flush.ensures.error)
      | else-not-is_empty w ↦
          let none : kept ≡ [] = nil_from_length kept (grind (arith, nat_tests, ap length c.as_slice.ensures)) in
          finishes_flush _ input written _ _ _ [] s (Appends-nil _) (rw append-nil (reached_end input written s kept none r))
          (rw w.writer-is at c.flush.ensures.ok) (rw w.writer-is at c.flush.ensures.error)
    ]
