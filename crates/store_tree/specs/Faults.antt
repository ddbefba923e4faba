-- Why a call on a tree fails.
use Rattle.sqlite_trees.specs.declared.error.StoreError.{StoreError}
use Rattle.sqlite_trees.specs.declared.error.StoreError.TheVariants.{OutOfMemory}
use Rattle.store_file.specs.declared.fault.StoreFault.{StoreFault}
use Rattle.store_file.specs.declared.fault.StoreFault.TheVariants as log
use Rattle.store_tree.specs.declared.fault.TreeFault.{TreeFault}
use Rattle.store_tree.specs.declared.fault.TreeFault.TheVariants as fault

-- what an error of the database is to a caller
abbrev pub tree_fault_of : StoreError → TreeFault
tree_fault_of OutOfMemory = fault.Memory
tree_fault_of other = fault.Database other

-- what a fault of a tree is to a caller that writes a log
abbrev pub log_fault_of : TreeFault → StoreFault
log_fault_of (fault.Database error) = log.Database error
log_fault_of fault.Memory = log.Memory
log_fault_of fault.Malformed = log.Malformed

-- what a fault of a log is to a caller
abbrev pub fault_of_log : StoreFault → TreeFault
fault_of_log (log.Database error) = fault.Database error
fault_of_log log.Memory = fault.Memory
fault_of_log other = fault.Malformed
