use Rattle.std.proofs.Common.{sym, ◌∙◌, arith}
use Rattle.merkle_bytes.specs.Counts.{count_told}
use Rattle.merkle_bytes.proofs.numbers.number_below.Goals as goal

pub returns-else-number-limit-clause-malformed : goal.returns-else-number-limit-clause-malformed
returns-else-number-limit-clause-malformed c = λ malformed number rest low e.
    absurd (omega (arith, (count_told c.in_ok-number.number number c.count.new.self.left.now rest (sym c.in_ok-number.ensures.read ∙ e)).0, c.if-number-limit.false, low))
