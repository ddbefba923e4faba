use Rattle.sqlite_wal.proofs.CleanLemmas.{both_clean}
use Rattle.store_file.specs.Files.{image_of}
use Rattle.store_file.proofs.SizeLemmas.{probe_size}
use Rattle.store_file.proofs.file.find_size.Goals as goal

pub returns-in-Ok-probe_first_page-clause-named : goal.returns-in-Ok-probe_first_page-clause-named
returns-in-Ok-probe_first_page-clause-named g c =
    λ later held.
    let read = c.probe_first_page.ensures in
    let clean = both_clean _ _ _ _ read.log.clean read.db.clean later in
    let found = c.in-Ok.found in
    probe_size (image_of g.D.Disk c.args.files.now) found (c.in-Ok.ensures.by_log clean) (c.in-Ok.ensures.by_file clean) held c.in-Some.size c.in-Some.is
