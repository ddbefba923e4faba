use Rattle.std.proofs.Common.{◌+◌, ◌%◌, ◌<◌, ap, sym, subst, ◌∙◌, arith}
use Rattle.std.specs.Prelude.{◌^◌}
use Rattle.merkle_digest.specs.declared.siphash.Sip24.{Sip24}
use Rattle.merkle_digest.proofs.Absorbing.{below-more, Holds_short, Holds_full}
use Rattle.merkle_digest.proofs.siphash.Sip24.write_word.Goals as goal
use Rattle.merkle_digest.proofs.siphash.Sip24.write_word.Goals.{then-used-count-lt8, else-used-count-lt8}

pub returns : goal.returns
returns c = λ key written piece held bytes len is.
    let h = c.args.self.now in
    elim c.if-used-count-lt8.branch [
      | then-used-count-lt8 w ↦
          Holds_short h _ key written piece c.args.bytes held is (subst (λ n. c.args.bytes < 256 ^ n) (sym len) c.requires.below) (omega (arith, w.if-used-count-lt8.true))
          (ap (λ (s : Sip24). s.state) w.self-is) (ap (λ (s : Sip24). s.tail) w.self-is)
          (ap (λ (s : Sip24). (s.length + c.args.count) % 256) w.self-is ∙ ap (λ n. (h.length + n) % 256) (sym len))
      | else-used-count-lt8 w ↦
          Holds_full h _ key written piece c.args.bytes held bytes (omega (arith, c.requires.few)) is
          (below-more c.args.bytes c.args.count 8 c.requires.few c.requires.below) (omega (arith, w.if-used-count-lt8.false))
          (ap (λ (s : Sip24). s.state) w.self-is ∙ w.absorb_word.ensures) (ap (λ (s : Sip24). s.tail) w.self-is)
          (ap (λ (s : Sip24). (s.length + c.args.count) % 256) w.self-is ∙ ap (λ n. (h.length + n) % 256) (sym len))
    ]
