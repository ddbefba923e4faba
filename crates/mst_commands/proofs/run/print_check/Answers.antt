use Rattle.store_file.proofs.Calls.{alike, reads_then}
use Rattle.mst_commands.proofs.run.print_check.Goals as goal

pub returns : goal.returns
returns g c = record { reads = reads_then g.S.Store _ _ _ _ _ _ c.in_ok-expect_entries.ensures.reads tt c.print_status.ensures.reads (alike _) }
