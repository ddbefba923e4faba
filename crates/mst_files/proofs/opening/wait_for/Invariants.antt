use Rattle.std.proofs.Common.{IfOk, IsTrue}
use Rattle.sqlite_disk.specs.contracts.start.UnknownStart.TheImpl.{ghosts}
use Rattle.sqlite_std_file.specs.File.{file_is_usable}
use Rattle.store_file.specs.Unsure.{disk_below}
use Rattle.mst_files.proofs.opening.wait_for.Given as goal

abbrev pub invariant-tries : goal.invariant-tries
invariant-tries l = record {
  log : IfOk l.opened (λ files. IsTrue (file_is_usable ghosts (disk_below files.log)));
  db : IfOk l.opened (λ files. IsTrue (file_is_usable ghosts (disk_below files.db)));
}
