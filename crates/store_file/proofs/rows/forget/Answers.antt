use Rattle.std.proofs.Common.{rules}
use Rattle.std.proofs.lemmas.Fn.{filter_same}
use Rattle.store_file.specs.Rows.{stays}
use Rattle.store_file.proofs.rows.forget.Goals as goal

pub returns : goal.returns
returns c = filter_same _ (stays c.args.before) _ (λ x b f' called. search rules) _ _ c.retain.ensures.filtered
