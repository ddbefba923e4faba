use Rattle.std.specs.String.{string_cmp_total}
use Rattle.store_file.specs.contracts.register.RegisterEq.TheImpl.Laws.{laws-law}
use Rattle.store_file.specs.contracts.register.RegisterOrd.TheImpl.Laws.{total-law, matches_eq-law}
use Rattle.store_file.specs.contracts.registers.RegisterJoin.TheImpl.Laws.{joining-law}
use Rattle.merkle_store.proofs.Found.{found_kept}
use Rattle.merkle_store.proofs.NewsIn.{news_are_later}
use Rattle.merkle_store.proofs.laws.news_in_a_log_are_later_than_its_rows.Goals as goal

pub returns : goal.returns
returns c = λ writer trees rows came news kept are.
    news_are_later total-law _ matches_eq-law trees rows
    (λ key found latest. found_kept total-law _ laws-law joining-law string_cmp_total matches_eq-law key writer trees rows found kept latest) came news are
