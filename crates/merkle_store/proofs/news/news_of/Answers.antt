use Rattle.std.proofs.Common.{rules}
use Rattle.std.proofs.lemmas.Fn.{filter_same}
use Rattle.key_order.specs.Text.{text_order}
use Rattle.key_order.specs.Map.{get}
use Rattle.store_file.specs.Registers.{is_later}
use Rattle.merkle_store.proofs.news.news_of.Goals as goal

pub returns : goal.returns
returns c =
    filter_same _ (λ entry. is_later (get text_order c.args.replica.now.rows entry.0) entry.1) _ (λ x b f' called. search rules) _ _ c.retain.ensures.filtered
