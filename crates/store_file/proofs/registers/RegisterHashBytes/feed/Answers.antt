use Rattle.std.proofs.Common.{ℕ, List, [], ◌∷◌, ◌++◌, subst, subst₂, Option, length, string_bytes, sym}
use Rattle.std.specs.Int.{w64, to_le_bytes}
use Rattle.merkle_digest.specs.Sip24.{Holds}
use Rattle.store_file.specs.RegisterBytes.{value_bytes}
use Rattle.store_file.specs.Values.{bytes_of_value, kind_mark}
use Rattle.store_file.specs.declared.value.Value.{Value}
use Rattle.store_file.proofs.Appended.{four, five}
use Rattle.store_file.proofs.registers.RegisterHashBytes.feed.Goals as goal

-- the writes, one after the other
pub returns-in-Some : goal.returns-in-Some
returns-in-Some c = λ key written h.
    let t = to_le_bytes w64 c.args.self.now.time in
    let l = to_le_bytes w64 (length c.as_bytes.result.now) in
    let w = string_bytes c.args.self.now.writer in
    let three = c.feed-3.ensures key ((written ++ t) ++ l) (c.feed-2.ensures key (written ++ t) (c.feed.ensures key written h)) in
    let value = c.in-Some.value in
    let all = rw (c.mark.ensures, c.as_bytes-in-Some.ensures) at (c.write.ensures key _ (c.feed-in-Some.ensures key _ three)) in
    let flat = subst (Holds c.write.new.self key) (five written t l w (kind_mark value ∷ []) (bytes_of_value value)) all in
    subst₂ (λ (n : List ℕ) (v : Option Value). Holds c.write.new.self key (written ++ (t ++ (to_le_bytes w64 (length n) ++ (w ++ value_bytes v))))) c.as_bytes.ensures.value (sym c.in-Some.is) flat

pub returns-in-None : goal.returns-in-None
returns-in-None c = λ key written h.
    let t = to_le_bytes w64 c.args.self.now.time in
    let l = to_le_bytes w64 (length c.as_bytes.result.now) in
    let w = string_bytes c.args.self.now.writer in
    let three = c.feed-3.ensures key ((written ++ t) ++ l) (c.feed-2.ensures key (written ++ t) (c.feed.ensures key written h)) in
    let all = c.feed-in-None.ensures key _ three in
    let flat = subst (Holds c.feed-in-None.new.sip key) (four written t l w (0 ∷ [])) all in
    subst₂ (λ (n : List ℕ) (v : Option Value). Holds c.feed-in-None.new.sip key
    (written ++ (t ++ (to_le_bytes w64 (length n) ++ (w ++ value_bytes v))))) c.as_bytes.ensures.value (sym c.in-None.is) flat
