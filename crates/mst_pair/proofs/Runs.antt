-- A run and one more line, byte by byte.
use Rattle.std.proofs.Common.{◌≡◌, ℕ, suc, ◌+◌, List, [], ◌∷◌, ◌++◌, ◌<◌, refl, sym, ap, ◌∙◌, subst, append_assoc, append-nil, take, drop, length, get_or, nat_eq, false, arith, Option, Result, Ok, Err, IsErr, OnOk, OnErr, take-append-drop, drop-cons, add-one}
use Rattle.mst_pair.specs.Devices.{AppendsOrHides, KeepsOrHides}
use Rattle.std.specs.Io.KnownBytes.{Appends, Keeps}
use Rattle.mst_pair.proofs.Devices.{Appends-kept, appends_then_hides}
use Rattle.mst_pair.specs.Lines.{Parts, parts, newline, whole_lines, lines_of, line_if_any}
use Rattle.mst_pair.specs.Replicas.{Replicas, empty_replicas}
use Rattle.mst_pair.specs.Engine.{RepliesTo}
use Rattle.mst_pair.specs.Run.{Run, RepliesCut}
use Rattle.mst_pair.specs.Session.{Reached, GoesOnWith, Finishes}
use Rattle.mst_pair.proofs.Lines.{parts-newline, parts-byte}
use Rattle.mst_pair.proofs.Steps.{step_of_kept}
use Rattle.mst_pair.proofs.Kept.{cut_more}

pub run_more : (s mid new : Replicas) (lines : List (List ℕ)) (line written reply : List ℕ) → Run s lines written mid → RepliesTo mid line reply new → Run s (lines ++ line ∷ []) (written ++ reply) new
run_more s mid new [] line written reply (nothing, same) step =
    (reply, [], new, subst (λ (t : Replicas). RepliesTo t line reply new) same step, (refl, refl), ap (λ ws. ws ++ reply) nothing ∙ sym (append-nil reply))
run_more s mid new (first ∷ lines) line written reply (r, rest, t, one, others, split) step =
    (r, rest ++ reply, t, one, run_more t mid new lines line rest reply others step, ap (λ ws. ws ++ reply) split ∙ append_assoc r rest reply)

-- a byte of a line is kept, as far as it is looked at
pub reached_byte : (input written : List ℕ) (s : Replicas) (kept : List ℕ) (c : ℕ) → nat_eq c newline ≡ false → Reached input written s kept
    → Reached (input ++ c ∷ []) written s (take 283 (kept ++ c ∷ []))
reached_byte input written s kept c other r = record {
  run = subst (λ (p : Parts). Run empty_replicas p.whole written s) (sym (parts-byte input c other)) r.run;
  kept_is = ap (λ ks. take 283 (ks ++ c ∷ [])) r.kept_is ∙ cut_more (parts input).rest c 283 ∙ ap (λ (p : Parts). take 283 p.rest) (sym (parts-byte input c other));
}

-- the reply to the line that is kept is a reply to the line
step_of_reached : (input written : List ℕ) (s : Replicas) (kept reply : List ℕ) (new : Replicas) → Reached input written s kept → RepliesTo s kept reply new → RepliesTo s (parts input).rest reply new
step_of_reached input written s kept reply new r step = step_of_kept s (parts input).rest reply new (subst (λ (line : List ℕ). RepliesTo s line reply new) r.kept_is step)

-- a line is whole and answered
pub reached_line : (input written : List ℕ) (s : Replicas) (kept reply : List ℕ) (new : Replicas) → Reached input written s kept → RepliesTo s kept reply new
    → Reached (input ++ newline ∷ []) (written ++ reply) new []
reached_line input written s kept reply new r step = record {
  run = subst (λ (p : Parts). Run empty_replicas p.whole (written ++ reply) new) (sym (parts-newline input []))
      (subst (λ (ls : List (List ℕ)). Run empty_replicas ls (written ++ reply) new) (sym (append-nil (whole_lines input ++ (parts input).rest ∷ [])))
      (run_more empty_replicas s new (whole_lines input) (parts input).rest written reply r.run (step_of_reached input written s kept reply new r step)));
  kept_is = ap (λ (p : Parts). take 283 p.rest) (sym (parts-newline input []));
}

-- a line is whole, and of its reply a beginning is written, whatever follows the line
pub cut_line : (input written : List ℕ) (s : Replicas) (kept front rest : List ℕ) (new : Replicas) (more : List ℕ) → Reached input written s kept
    → RepliesTo s kept (front ++ rest) new → RepliesCut (lines_of (input ++ newline ∷ more)) (written ++ front)
cut_line input written s kept front rest new more r step = record {
  answered = whole_lines input;
  others = (parts input).rest ∷ lines_of more;
  whole = written;
  front = front;
  mid = s;
  lines_are = ap (λ (p : Parts). p.whole ++ line_if_any p.rest) (parts-newline input more)
      ∙ (append_assoc (whole_lines input ++ (parts input).rest ∷ []) (whole_lines more) (line_if_any (parts more).rest)
      ∙ append_assoc (whole_lines input) ((parts input).rest ∷ []) (lines_of more));
  run = r.run;
  begins = (rest, new, step_of_reached input written s kept (front ++ rest) new r step);
  written_is = refl;
}

-- a rest of which something is kept is the last line
last_is_line : (rest : List ℕ) → 0 < length (take 283 rest) → line_if_any rest ≡ rest ∷ []
last_is_line [] some = absurd (omega arith)
last_is_line (b ∷ bs) some = refl

last_is_none : (rest : List ℕ) → take 283 rest ≡ [] → line_if_any rest ≡ []
last_is_none [] none = refl
last_is_none (b ∷ bs) none = absurd (omega (arith, ap length none))

-- the last line is answered
pub reached_last : (input written : List ℕ) (s : Replicas) (kept reply : List ℕ) (new : Replicas) → 0 < length kept → Reached input written s kept
    → RepliesTo s kept reply new → Run empty_replicas (lines_of input) (written ++ reply) new
reached_last input written s kept reply new some r step =
    let last : line_if_any (parts input).rest ≡ (parts input).rest ∷ [] = last_is_line (parts input).rest (subst (λ (ks : List ℕ). 0 < length ks) r.kept_is some) in
    subst (λ (ls : List (List ℕ)). Run empty_replicas (whole_lines input ++ ls) (written ++ reply) new) (sym last)
    (run_more empty_replicas s new (whole_lines input) (parts input).rest written reply r.run (step_of_reached input written s kept reply new r step))

-- there is no last line
pub reached_end : (input written : List ℕ) (s : Replicas) (kept : List ℕ) → kept ≡ [] → Reached input written s kept → Run empty_replicas (lines_of input) written s
reached_end input written s kept none r =
    let last : line_if_any (parts input).rest ≡ [] = last_is_none (parts input).rest (sym r.kept_is ∙ none) in
    subst (λ (ls : List (List ℕ)). Run empty_replicas (whole_lines input ++ ls) written s) (sym last)
    (subst (λ (ls : List (List ℕ)). Run empty_replicas ls written s) (sym (append-nil (whole_lines input))) r.run)

-- of the last line's reply a beginning is written
pub cut_last : (input written : List ℕ) (s : Replicas) (kept front rest : List ℕ) (new : Replicas) → 0 < length kept → Reached input written s kept
    → RepliesTo s kept (front ++ rest) new → RepliesCut (lines_of input) (written ++ front)
cut_last input written s kept front rest new some r step = record {
  answered = whole_lines input;
  others = (parts input).rest ∷ [];
  whole = written;
  front = front;
  mid = s;
  lines_are = ap (λ ls. whole_lines input ++ ls) (last_is_line (parts input).rest (subst (λ (ks : List ℕ). 0 < length ks) r.kept_is some));
  run = r.run;
  begins = (rest, new, step_of_reached input written s kept (front ++ rest) new r step);
  written_is = refl;
}

-- all lines are answered
pub cut_none : (lines : List (List ℕ)) (written : List ℕ) (s : Replicas) → Run empty_replicas lines written s → RepliesCut lines written
cut_none lines written s run = record {
  answered = lines;
  others = [];
  whole = written;
  front = [];
  mid = s;
  lines_are = sym (append-nil lines);
  run = run;
  begins = refl;
  written_is = sym (append-nil written);
}

-- a list at one of its places
pub at_place : (xs : List ℕ) (i c : ℕ) → i < length xs → get_or xs i 0 ≡ c → xs ≡ take i xs ++ c ∷ drop (i + 1) xs
at_place xs i c inside here = sym (take-append-drop i xs) ∙ ap (λ t. take i xs ++ t) (rw (add-one, drop-cons xs i 0) (ap (λ d. d ∷ drop (suc i) xs) here))

-- a failed call says what a failed call leaves
pub goes_on_err : {A E : Type 0} (r : Result A E) (input written : List ℕ) (taken taken' : Option (List ℕ)) (s : Replicas) (kept more : List ℕ) → IsErr r
    → AppendsOrHides taken taken' more → RepliesCut (lines_of input) (written ++ more) → GoesOnWith r input written taken taken' s kept
goes_on_err (Ok x) input written taken taken' s kept more err hides cut = absurd (cc)
goes_on_err (Err e) input written taken taken' s kept more err hides cut = (more, hides, cut)

pub finishes_err : {A E : Type 0} (r : Result A E) (input written : List ℕ) (taken taken' : Option (List ℕ)) (more : List ℕ) → IsErr r
    → AppendsOrHides taken taken' more → RepliesCut (lines_of input) (written ++ more) → Finishes r input written taken taken'
finishes_err (Ok x) input written taken taken' more err hides cut = absurd (cc)
finishes_err (Err e) input written taken taken' more err hides cut = (more, hides, cut)

-- a flush at the end
pub finishes_flush : {A E : Type 0} (r : Result A E) (input written : List ℕ) (a b c : Option (List ℕ)) (more : List ℕ) (s : Replicas) → Appends a b more
    → Run empty_replicas (lines_of input) (written ++ more) s → OnOk r (Keeps b c) → OnErr r (KeepsOrHides b c) → Finishes r input written a c
finishes_flush (Ok x) input written a b c more s p run keeps hides = (more, Appends-kept a b c more p keeps, (s, run))
finishes_flush (Err e) input written a b c more s p run keeps hides = (more, appends_then_hides a b c more p hides, cut_none (lines_of input) (written ++ more) s run)
