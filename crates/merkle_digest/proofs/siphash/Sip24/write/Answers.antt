use Rattle.std.proofs.Common.{ℕ, ◌≡◌, ◌+◌, ◌-◌, ◌*◌, ◌/◌, ◌++◌, List, length, take, drop, refl, ap, subst, ◌∙◌, arith, length-drop}
use Rattle.std.proofs.lemmas.List.{append_assoc, length-take-le, take_all, take-append-drop}
use Rattle.merkle_digest.specs.Sip24.{Holds, AreBytes}
use Rattle.merkle_digest.proofs.Absorbing.{take_word, are_bytes, are-take, are-drop}
use Rattle.merkle_digest.proofs.siphash.Sip24.write.Goals as goal

pub words-preserved : goal.words-preserved
words-preserved c = λ key written held.
    let bytes = c.args.bytes.now in
    let a : ℕ = 8 * c.words.i in
    let next : 8 * (c.words.i + 1) ≡ a + 8 = omega arith in
    let all : AreBytes bytes = are_bytes bytes (λ i. omega (arith, c.type_inv.bytes i)) in
    let piece : List ℕ = take 8 (drop a bytes) in
    rw (next, take_word bytes a, ← append_assoc)
    (c.write_word.ensures key (written ++ take a bytes) piece (c.words.invariant key written held) (are-take 8 (drop a bytes) (are-drop a bytes all))
    (length-take-le 8 (drop a bytes) (omega (arith, length-drop a bytes))) c.read_word.ensures)

pub returns : goal.returns
returns c = λ key written held.
    let bytes = c.args.bytes.now in
    let q : ℕ = length bytes / 8 in
    let a : ℕ = 8 * c.words.i in
    let all : AreBytes bytes = are_bytes bytes (λ i. omega (arith, c.type_inv.bytes i)) in
    let end : 8 * q ≡ a = omega (arith, c.words-test.false, c.words.auto.i-end) in
    let piece : List ℕ = take (length bytes - 8 * q) (drop (8 * q) bytes) in
    let behind : piece ≡ drop a bytes = take_all (length bytes - 8 * q) (drop (8 * q) bytes) (omega (arith, length-drop (8 * q) bytes)) ∙ ap (λ n. drop n bytes) end in
    subst (λ xs. Holds c.write_word-2.new.self key xs) (append_assoc written (take a bytes) piece ∙ ap (λ xs. written ++ xs) (ap (λ ys. take a bytes ++ ys) behind ∙ take-append-drop a bytes))
    (c.write_word-2.ensures key (written ++ take a bytes) piece (c.words.invariant key written held)
    (are-take (length bytes - 8 * q) (drop (8 * q) bytes) (are-drop (8 * q) bytes all)) refl c.read_part.ensures.word)
