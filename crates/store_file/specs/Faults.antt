-- Why a file isn't opened, and why a call on a store fails.
use Rattle.std.specs.Prelude.{◌≢◌, ⊤, length}
use Rattle.sqlite_trees.specs.declared.error.StoreError.{StoreError}
use Rattle.sqlite_trees.specs.declared.error.StoreError.TheVariants.{OutOfMemory, Io, Full, Corrupt}
use Rattle.sqlite_trees.specs.Tree.{Trees}
use Rattle.sqlite_store.specs.declared.error.OpenError.{OpenError}
use Rattle.sqlite_store.specs.declared.error.OpenError.TheVariants as refusal
use Rattle.sqlite_wal.specs.declared.error.Error.{Error}
use Rattle.sqlite_wal.specs.declared.error.Error.TheVariants as probe
use Rattle.store_file.specs.declared.fault.StoreFault.{StoreFault}
use Rattle.store_file.specs.declared.fault.StoreFault.TheVariants as fault

-- what an error of the database is to a caller
abbrev pub fault_of : StoreError → StoreFault
fault_of OutOfMemory = fault.Memory
fault_of other = fault.Database other

-- what a refusal to open a database is
abbrev pub open_fault_of : OpenError → StoreFault
open_fault_of refusal.OutOfMemory = fault.Memory
open_fault_of refusal.Io = fault.Database Io
open_fault_of refusal.Full = fault.Database Full
open_fault_of refusal.Refused = fault.Database Corrupt

-- what it is that the first page can't be read
abbrev pub probe_fault_of : Error → StoreFault
probe_fault_of probe.OutOfMemory = fault.Memory
probe_fault_of (probe.Io error) = fault.Database Io
probe_fault_of probe.Full = fault.Database Full
probe_fault_of _ = fault.Database Corrupt

-- the database failed, a row of the tables is neither an entry nor a note, or memory ran out
abbrev pub IsFailure : StoreFault → Type 0
IsFailure (fault.Database error) = ⊤
IsFailure fault.Malformed = ⊤
IsFailure fault.Memory = ⊤
IsFailure _ = ⊥

-- so it is, or the database can't hold a time
abbrev pub IsUnwritten : StoreFault → Type 0
IsUnwritten fault.Time = ⊤
IsUnwritten other = IsFailure other

-- the trees are no store's: the table that says the format has not just one row
abbrev pub IsForeign : Trees → Type 0
IsForeign trees = length (trees 1) ≢ 1
