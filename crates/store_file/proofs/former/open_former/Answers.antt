use Rattle.sqlite_wal.proofs.CleanLemmas.{both_clean}
use Rattle.std.proofs.Common.{◌∙◌}
use Rattle.store_file.proofs.FormerLemmas.{has_former_tables}
use Rattle.store_file.proofs.StoreLemmas.{clean_files}
use Rattle.store_file.proofs.former.open_former.Goals as goal

pub returns-in-Ok-clause-honest : goal.returns-in-Ok-clause-honest
returns-in-Ok-clause-honest g c =
    λ now.
    let read = c.find_size.ensures in
    both_clean _ _ _ _ read.log.clean read.file.clean (clean_files c.in_ok-fresh.fresh c.find_size.new.files c.in_ok-fresh.ensures.files (c.in-Ok.ensures.honest now))

pub returns-in-Ok-clause-laid_out : goal.returns-in-Ok-clause-laid_out
returns-in-Ok-clause-laid_out g c = has_former_tables c.in-Ok.store c.in-Ok.ensures.ready (c.in-Ok.ensures.schema ∙ c.in_ok-fresh.ensures.schema)
