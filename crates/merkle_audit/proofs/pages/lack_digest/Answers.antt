use Rattle.std.proofs.Common.{◌≡◌, refl, sym, ◌∙◌}
use Rattle.std.proofs.lemmas.Bool.{false≢true}
use Rattle.merkle_diff.specs.PageRange.{entry}
use Rattle.merkle_audit.proofs.SoFar.{each_more, each_of_all, each_there}
use Rattle.merkle_audit.proofs.pages.lack_digest.Goals as goal

pub pages-preserved : goal.pages-preserved
pages-preserved g c =
    each_more (λ e. c.args.digest.now ≡ e.digest → ⊥) entry c.args.ranges.now c.pages.range-index c.range-item.result c.pages-test.true c.range-item.is c.pages.invariant
    (λ same. false≢true (sym c.if-is_digest.false ∙ c.is_digest.ensures.1 same))

pub returns-then-is_digest : goal.returns-then-is_digest
returns-then-is_digest g c = (
  λ t. absurd (false≢true t),
  λ none. absurd (each_there (λ e. c.args.digest.now ≡ e.digest → ⊥) entry c.args.ranges.now c.pages.range-index c.range-item.result c.pages-test.true c.range-item.is
      none (c.is_digest.ensures.0 c.if-is_digest.true)),
)

pub returns : goal.returns
returns g c = (λ t. each_of_all (λ e. c.args.digest.now ≡ e.digest → ⊥) entry c.args.ranges.now c.pages.range-index c.pages-test.false c.pages.invariant, λ none. refl)
