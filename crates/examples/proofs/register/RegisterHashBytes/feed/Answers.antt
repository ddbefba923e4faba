use Rattle.std.proofs.Common.{◌++◌, subst, append_assoc, ◌∙◌}
use Rattle.std.specs.Int.{w64, to_le_bytes}
use Rattle.merkle_digest.specs.Sip24.{Holds}
use Rattle.examples.proofs.register.RegisterHashBytes.feed.Goals as goal

-- the three writes, one after the other
pub returns : goal.returns
returns c = λ key written h.
    let t = to_le_bytes w64 c.args.self.now.time in
    let w = to_le_bytes w64 c.args.self.now.writer in
    let v = to_le_bytes w64 c.args.self.now.value in
    subst (Holds c.feed-3.new.sip key) (append_assoc (written ++ t) w v ∙ append_assoc written t (w ++ v))
    (c.feed-3.ensures key ((written ++ t) ++ w) (c.feed-2.ensures key (written ++ t) (c.feed.ensures key written h)))
