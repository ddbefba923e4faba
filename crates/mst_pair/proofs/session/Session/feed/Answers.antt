use Rattle.std.proofs.Common.{rules, ◌≡◌, ◌<◌, length, ℕ, List, [], ◌++◌, ◌+◌, ◌∷◌, take, drop, sym, ap, ◌∙◌, subst, append_assoc, get_or, refl}
use Rattle.std.proofs.lemmas.List.{take_more}
use Rattle.std.proofs.lemmas.Bool.Decides.{nat_tests}
use Rattle.std.proofs.KnownBytes.{Appends-trans}
use Rattle.mst_pair.specs.Engine.{RepliesTo}
use Rattle.mst_pair.specs.Lines.{newline, lines_of}
use Rattle.mst_pair.specs.Run.{RepliesCut}
use Rattle.mst_pair.proofs.Devices.{appends_or_hides_after}
use Rattle.mst_pair.proofs.Runs.{reached_line, reached_byte, cut_line, at_place, goes_on_err}
use Rattle.mst_pair.proofs.session.Session.feed.Goals as goal
use Rattle.mst_pair.proofs.session.Session.feed.Goals.{then-byte-eq10+in_ok-answer, else-byte-eq10}

-- one more byte was looked at
one_more : (input bytes : List ℕ) (i c : ℕ) → i < length bytes → get_or bytes i 0 ≡ c → (input ++ take i bytes) ++ c ∷ [] ≡ input ++ take (i + 1) bytes
one_more input bytes i c inside here = append_assoc input (take i bytes) (c ∷ []) ∙ ap (λ t. input ++ t) (ap (λ d. take i bytes ++ d ∷ []) (sym here) ∙ sym (take_more bytes i 0 inside))

-- all bytes, seen from the newline among them
around : (input bytes : List ℕ) (i : ℕ) → i < length bytes → get_or bytes i 0 ≡ newline → (input ++ take i bytes) ++ newline ∷ drop (i + 1) bytes ≡ input ++ bytes
around input bytes i inside here = append_assoc input (take i bytes) (newline ∷ drop (i + 1) bytes) ∙ ap (λ t. input ++ t) (sym (at_place bytes i newline inside here))

-- src/session.rt:35:17
pub returns-in_err-answer-clause-bytes : goal.returns-in_err-answer-clause-bytes
returns-in_err-answer-clause-bytes g c = λ input written r.
    let (more, taken, at) = c.taking.invariant.reached input written r in
    let (reply, step, wrote) = c.in_err-answer.ensures.bytes in
    let (front, rest, split, hides) = wrote in
    let i = c.taking.byte-index in
    let bytes = c.args.bytes.now in
    let kept = c.taking.self.line in
    let here : RepliesTo c.taking.self.engine kept (front ++ rest) c.answer.new.self =
    subst (λ (k : List ℕ). RepliesTo c.taking.self.engine k (front ++ rest) c.answer.new.self) c.as_slice.ensures
    (subst (λ (t : List ℕ). RepliesTo c.taking.self.engine c.as_slice.result.now t c.answer.new.self) split step) in
    let cut = cut_line (input ++ take i bytes) (written ++ more) c.taking.self.engine kept front rest c.answer.new.self (drop (i + 1) bytes) at here in
    goes_on_err _ _ _ _ _ _ _ (more ++ front) c.from_residual.ensures.0 (appends_or_hides_after _ _ _ more front taken hides)
    (rw (← append_assoc written more front) (subst (λ (all : List ℕ). RepliesCut (lines_of all) ((written ++ more) ++ front)) (around input bytes i c.taking-test.true c.if-byte-eq10.true) cut))

-- src/session.rt:33:9
pub taking-preserved : goal.taking-preserved
taking-preserved g c =
    let i = c.taking.byte-index in
    let bytes = c.args.bytes.now in
    let kept = c.taking.self.line in
    elim c.if-byte-eq10.branch [
      | then-byte-eq10+in_ok-answer w ↦ rw (w.self-is, w.writer-is) (record {
        reached = λ input written r.
            let (more, taken, at) = c.taking.invariant.reached input written r in
            let (reply, step, wrote) = w.in_ok-answer.ensures.bytes in
            let here : RepliesTo c.taking.self.engine kept reply w.answer.new.self = subst (λ (k : List ℕ). RepliesTo c.taking.self.engine k reply w.answer.new.self) w.as_slice.ensures step in
            let next = reached_line (input ++ take i bytes) (written ++ more) c.taking.self.engine kept reply w.answer.new.self at here in
            (more ++ reply, Appends-trans _ _ _ _ _ taken wrote, rw (w.clear.ensures, ← one_more input bytes i newline c.taking-test.true w.if-byte-eq10.true, ← append_assoc written more reply) next);
        works = w.in_ok-answer.ensures.failed ∙ c.taking.invariant.works;
      })
      | else-byte-eq10 w ↦ rw (w.self-is, w.writer-is) (record {
        reached = λ input written r.
            let (more, taken, at) = c.taking.invariant.reached input written r in (
              more,
              taken,
              rw (w.push.ensures, ← one_more input bytes i _ c.taking-test.true refl)
                  (reached_byte (input ++ take i bytes) (written ++ more) c.taking.self.engine kept (get_or bytes i 0) (search (rules, nat_tests)) at),
            );
        works = c.taking.invariant.works;
      })
    ]
