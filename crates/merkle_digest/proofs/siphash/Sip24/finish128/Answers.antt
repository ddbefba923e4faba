use Rattle.std.proofs.Common.{refl, ap, ◌∙◌}
use Rattle.merkle_digest.specs.SipHash.{output}
use Rattle.merkle_digest.proofs.Absorbing.{siphash128_from}
use Rattle.merkle_digest.proofs.siphash.Sip24.finish128.Goals as goal

pub returns : goal.returns
returns c = λ key written held.
    siphash128_from c.args.self.now key written c.output.result _ held refl
    (c.output.ensures ∙ ap output c.absorb_word.ensures)
