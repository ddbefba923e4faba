use Rattle.std.proofs.Common.{rules}
use Rattle.std.proofs.lemmas.Fn.{filter_same}
use Rattle.mst_commands.specs.Imports.{is_newer}
use Rattle.mst_commands.proofs.writing.retain_news.Goals as goal

pub returns : goal.returns
returns c up = filter_same _ (is_newer c.args.rows.now) _ (λ x b f' called. search rules) _ _ c.retain.ensures.filtered
