use Rattle.std.proofs.Common.{[], ◌∷◌, ◌++◌, cond, subst, append_assoc, ◌∙◌}
use Rattle.std.specs.Int.{w64, to_le_bytes}
use Rattle.merkle_digest.specs.Sip24.{Holds}
use Rattle.examples.proofs.removable.RemovableHashBytes.feed.Goals as goal

-- the three writes, one after the other
pub returns : goal.returns
returns c = λ key written h.
    let t = to_le_bytes w64 c.args.self.now.time in
    let r = cond c.args.self.now.removed 1 0 ∷ [] in
    let v = to_le_bytes w64 c.args.self.now.value in
    subst (Holds c.feed-3.new.sip key) (append_assoc (written ++ t) r v ∙ append_assoc written t (r ++ v))
    (c.feed-3.ensures key ((written ++ t) ++ r) (c.feed-2.ensures key (written ++ t) (c.feed.ensures key written h)))
