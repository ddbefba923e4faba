use Rattle.std.proofs.Common.{◌≡◌, ◌-◌, take, length, length-drop, subst, sym, arith, rules}
use Rattle.std.specs.Io.KnownBytes.{Consumes}
use Rattle.std.proofs.KnownBytes.{Consumes-trans}
use Rattle.merkle_store.proofs.Messages.{rest_filled}
use Rattle.merkle_store.proofs.framing.receive_len.Goals as goal

pub returns-clause-read : goal.returns-clause-read
returns-clause-read g c =
    let got = c.in-Ok.got in
    let first = c.read.new.buf in
    let rest = c.fill.new.buf in
    let eight : length first ≡ 8 = search rules in
    subst (Consumes _ _) (sym (rest_filled got (8 - got) first rest (omega (arith, length-drop got first, eight))))
    (Consumes-trans _ _ _ (take got first) rest c.in-Ok.ensures.bytes.0 c.in_ok-fill.ensures.filled)
