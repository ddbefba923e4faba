use Rattle.sqlite_wal.proofs.CleanLemmas.{both_clean}
use Rattle.std.proofs.Common.{◌∙◌}
use Rattle.store_file.proofs.StoreLemmas.{clean_files, is_laid_out}
use Rattle.store_file.proofs.file.open_whole.Goals as goal

pub returns-in-Ok-clause-honest : goal.returns-in-Ok-clause-honest
returns-in-Ok-clause-honest g c =
    λ now.
    let read = c.find_size.ensures in
    both_clean _ _ _ _ read.log.clean read.file.clean (clean_files c.in_ok-fresh.fresh c.find_size.new.files c.in_ok-fresh.ensures.files (c.in-Ok.ensures.honest now))

pub returns-in-Ok-clause-laid_out : goal.returns-in-Ok-clause-laid_out
returns-in-Ok-clause-laid_out g c = is_laid_out c.in-Ok.store c.in-Ok.ensures.ready (c.in-Ok.ensures.schema ∙ c.in_ok-fresh.ensures.schema)
