use Rattle.std.proofs.Common.{sym, ◌∙◌}
use Rattle.std.proofs.lemmas.Bool.{false≢true}
use Rattle.merkle_audit.proofs.pages.tell_all.Goals as goal

pub returns-then-not-tell_maps : goal.returns-then-not-tell_maps
returns-then-not-tell_maps g c = (λ t. absurd (false≢true t), λ all. absurd (false≢true (sym c.if-not-tell_maps.true ∙ c.tell_maps.ensures.1 all.maps)))

pub returns-then-not-lack_empty_page : goal.returns-then-not-lack_empty_page
returns-then-not-lack_empty_page g c = (λ t. absurd (false≢true t), λ all. absurd (false≢true (sym c.if-not-lack_empty_page.true ∙ c.lack_empty_page.ensures.1 all.first_alone)))

pub returns : goal.returns
returns g c = (
  λ t. record { maps = c.tell_maps.ensures.0 c.if-not-tell_maps.false; first_alone = c.lack_empty_page.ensures.0 c.if-not-lack_empty_page.false; second_alone = c.lack_empty_page-2.ensures.0 t },
  λ all. c.lack_empty_page-2.ensures.1 all.second_alone,
)
