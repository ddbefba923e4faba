-- Why a command ends early.
use Rattle.std.specs.Prelude.{◌≡◌, ⊤, Result, IfErr}
use Rattle.sqlite_trees.specs.declared.store.Store.{Ghosts}
use Rattle.store_file.specs.Logs.{IsClean, trees_of}
use Rattle.mst_commands.specs.declared.fault.Fault.{Fault}
use Rattle.mst_commands.specs.declared.fault.Fault.TheVariants as fault

-- a key or a value is too long
abbrev pub IsTooLong : Fault → Type 0
IsTooLong (fault.TooLong what) = ⊤
IsTooLong _ = ⊥

-- an entry is too far ahead of the clock
abbrev pub IsAhead : Fault → Type 0
IsAhead (fault.Future entry) = ⊤
IsAhead _ = ⊥

-- an input or an output failed
abbrev pub IsDevice : Fault → Type 0
IsDevice (fault.Device error) = ⊤
IsDevice _ = ⊥

-- over a clean disk the trees are as they were where an output failed
abbrev pub StaysAtDevice : {S A : Type 0} → Ghosts S → S → S → Result A Fault → Type 0
StaysAtDevice g old new result = IfErr result (λ why. IsDevice why → IsClean g new → trees_of g new ≡ trees_of g old)
