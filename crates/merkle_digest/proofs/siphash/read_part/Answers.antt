use Rattle.std.proofs.Common.{ℕ, List, ◌≡◌, ◌<◌, length, take, ap, sym, ◌∙◌, arith}
use Rattle.std.specs.Prelude.{◌^◌, slice_index_or}
use Rattle.std.proofs.lemmas.List.{take_more, length-take-le}
use Rattle.merkle_digest.specs.SipHash.{word}
use Rattle.merkle_digest.proofs.Absorbing.{word-none, word-more, joined-byte}
use Rattle.merkle_digest.proofs.siphash.read_part.Goals as goal

pub bytes-init : goal.bytes-init
bytes-init c = record { below = omega arith; read = sym word-none }

pub bytes-preserved : goal.bytes-preserved
bytes-preserved c =
    let bytes : List ℕ = c.args.bytes.now in
    let i : ℕ = c.bytes.i in
    let b : ℕ = slice_index_or bytes i 0 in
    let low : b < 256 = omega (arith, c.type_inv.bytes i) in
    let len : length (take i bytes) ≡ i = length-take-le i bytes (omega arith) in
    let byte = joined-byte c.bytes.word b i (omega arith) low c.bytes.invariant.below in
    record {
      below = rw byte.0 byte.1;
      read = byte.0 ∙ (rw (c.bytes.invariant.read, ap (λ n. 256 ^ n) (sym len)) (sym (word-more (take i bytes) b (omega arith)))) ∙ ap word (sym (take_more bytes i 0 (omega arith)));
    }
