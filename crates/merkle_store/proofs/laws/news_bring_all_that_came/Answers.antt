use Rattle.std.specs.String.{string_cmp_total}
use Rattle.store_file.specs.contracts.register.RegisterEq.TheImpl.Laws.{laws-law}
use Rattle.store_file.specs.contracts.register.RegisterOrd.TheImpl.Laws.{total-law}
use Rattle.store_file.specs.contracts.registers.RegisterJoin.TheImpl.Laws.{joining-law}
use Rattle.merkle_store.specs.News.{later_entries}
use Rattle.merkle_store.proofs.Growing.{grown_join_the_same}
use Rattle.merkle_store.proofs.Keeping.{gathers_same}
use Rattle.merkle_store.proofs.Latest.{later_join_the_same}
use Rattle.merkle_store.proofs.laws.news_bring_all_that_came.Goals as goal

pub returns : goal.returns
returns c = λ before written rows came now grown joins.
    let later = later_entries before came in
    let alike = grown_join_the_same _ laws-law _ joining-law before written rows came later grown (later_join_the_same total-law _ laws-law joining-law string_cmp_total before came) in
    gathers_same _ laws-law _ joining-law string_cmp_total rows came later now alike joins
